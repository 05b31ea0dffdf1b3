use Rattle.std.proofs.Common.{◌≡◌, ◌++◌, List, [], map, drop}
use Rattle.fluent_ast.specs.View.{attribute_view}
use Rattle.fluent_grammar.specs.Words.{Text}
use Rattle.lint_findings.specs.View.{finding_view}
use Rattle.lint_entries.specs.AttributePlaces.{AreAttributesAt}
use Rattle.lint_entries.specs.AttributesFound.{attributes_found}
use Rattle.lint_entries.specs.HasNames.{HasNames}
use Rattle.lint_entries.proofs.entry.push_attributes.Given as goal

abbrev pub invariant-loop-attribute : goal.invariant-loop-attribute
invariant-loop-attribute l =
    let view = attribute_view _ (λ s. s.now) in
    let left = map view (drop l.attribute-index l.attributes) in
    ((rest : Text) → AreAttributesAt (map view l.attributes) l.initial.rest rest → AreAttributesAt left l.rest rest)
    × ((before : List Text) × HasNames l.names before
    × (map finding_view l.findings.items ++ attributes_found l.catalog l.entry before left l.rest
    ≡ map finding_view l.initial.findings.items ++ attributes_found l.catalog l.entry [] (map view l.attributes) l.initial.rest))
