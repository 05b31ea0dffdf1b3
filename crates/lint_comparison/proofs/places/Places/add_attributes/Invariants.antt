use Rattle.std.proofs.Common.{drop}
use Rattle.fluent_ast.specs.Borrowed.{attributes_of}
use Rattle.lint_entries.specs.AttributePlaces.{AreAttributesAt, places_of_attributes}
use Rattle.fluent_grammar.specs.Words.{Text}
use Rattle.lint_comparison.specs.HasPlaces.{GetsPatternPlaces}
use Rattle.lint_comparison.specs.declared.places.Places.{Places}
use Rattle.lint_comparison.proofs.places.Places.add_attributes.Given as goal

-- The attributes that are left are there, and once theirs are added, those of all are.
abbrev pub invariant-loop-attribute : goal.invariant-loop-attribute
invariant-loop-attribute l =
    let left = attributes_of (drop l.attribute-index l.attributes) in
    ((rest : Text) → AreAttributesAt (attributes_of l.attributes) l.initial.rest rest → AreAttributesAt left l.rest rest)
    × ((last : Places) → GetsPatternPlaces l.self (places_of_attributes left l.rest) last → GetsPatternPlaces l.fn.self (places_of_attributes (attributes_of l.attributes) l.initial.rest) last)
