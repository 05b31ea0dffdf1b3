use Rattle.std.proofs.Common.{◌≡◌, ◌++◌, drop, map}
use Rattle.fluent_ast.specs.Borrowed.{attributes_of}
use Rattle.fluent_grammar.specs.Words.{Text}
use Rattle.lint_findings.specs.View.{finding_view}
use Rattle.lint_comparison.specs.TextsView.{attributes_found}
use Rattle.lint_entries.specs.AttributePlaces.{AreAttributesAt}
use Rattle.lint_comparison.proofs.texts.Texts.push_attributes.Given as goal

-- The attributes that are left are there, and the findings so far, and then theirs, are all.
abbrev pub invariant-loop-attribute : goal.invariant-loop-attribute
invariant-loop-attribute l =
    let left = attributes_of (drop l.attribute-index l.attributes) in
    ((rest : Text) → AreAttributesAt (attributes_of l.attributes) l.initial.rest rest → AreAttributesAt left l.rest rest)
    × (map finding_view l.findings.items ++ attributes_found l.self left l.rest
    ≡ map finding_view l.initial.findings.items ++ attributes_found l.self (attributes_of l.attributes) l.initial.rest)
