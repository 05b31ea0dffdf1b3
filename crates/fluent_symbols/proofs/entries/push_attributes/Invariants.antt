use Rattle.std.proofs.Common.{◌≡◌, ◌++◌, map, drop}
use Rattle.fluent_ast.specs.View.{attribute_view}
use Rattle.fluent_symbols.specs.OccurrenceView.{label, occurrence_view}
use Rattle.fluent_symbols.specs.Entries.{in_attributes}
use Rattle.fluent_symbols.proofs.entries.push_attributes.Given as goal

abbrev pub invariant-loop-attribute : goal.invariant-loop-attribute
invariant-loop-attribute l =
    let view = attribute_view _ (λ s. s.now) in
    map occurrence_view l.found.items ++ in_attributes (label l.owner) (map view (drop l.attribute-index l.attributes)) l.rest
    ≡ map occurrence_view l.initial.found.items ++ in_attributes (label l.owner) (map view l.attributes) l.initial.rest
