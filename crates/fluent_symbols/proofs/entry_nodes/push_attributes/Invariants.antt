use Rattle.std.proofs.Common.{◌≡◌, ◌++◌, map, drop}
use Rattle.fluent_ast.specs.View.{attribute_view}
use Rattle.fluent_symbols.specs.NodeView.{node_view}
use Rattle.fluent_symbols.specs.EntryNodes.{last_end, attributes_rest, in_attributes}
use Rattle.fluent_symbols.proofs.entry_nodes.push_attributes.Given as goal

abbrev pub invariant-loop-attribute : goal.invariant-loop-attribute
invariant-loop-attribute l =
    let view = attribute_view _ (λ s. s.now) in
    let left = map view (drop l.attribute-index l.attributes) in
    let all = map view l.attributes in
    (attributes_rest left l.rest ≡ attributes_rest all l.initial.rest)
    × (last_end l.end left l.rest ≡ last_end l.initial.end all l.initial.rest)
    × (map node_view l.found.items ++ in_attributes left l.rest ≡ map node_view l.initial.found.items ++ in_attributes all l.initial.rest)
