use Rattle.std.proofs.Common.{drop, map}
use Rattle.fluent_ast.specs.Borrowed.{attribute_of}
use Rattle.fluent_grammar.specs.Words.{Text}
use Rattle.lint_entries.specs.AttributePlaces.{AreAttributesAt}
use Rattle.lint_entries.proofs.rest.attributes_rest.Given as goal

abbrev pub invariant-loop-attribute : goal.invariant-loop-attribute
invariant-loop-attribute l = (rest : Text) → AreAttributesAt (map attribute_of l.attributes) l.initial.rest rest →
    AreAttributesAt (map attribute_of (drop l.attribute-index l.attributes)) l.rest rest
