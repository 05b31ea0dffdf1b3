use Rattle.std.proofs.Common.{◌+◌, map, drop, refl}
use Rattle.fluent_ast.specs.Borrowed.{attribute_of}
use Rattle.fluent_symbols.specs.NodeView.{node_view}
use Rattle.fluent_symbols.proofs.EntrySteps.{attribute_kept}
use Rattle.fluent_symbols.proofs.NodeSteps.{seen_from}
use Rattle.fluent_symbols.proofs.entry_nodes.push_attributes.Goals as goal

pub loop-attribute-preserved : goal.loop-attribute-preserved
loop-attribute-preserved c =
    let items = c.args.attributes.now in
    let i = c.loop-attribute.attribute-index in
    let item = c.attribute-item.result in
    let ok = c.in_ok-ended in
    attribute_kept (attribute_of item) (map attribute_of (drop i items)) (map attribute_of (drop (i + 1) items)) c.loop-attribute.end.now c.loop-attribute.rest.now c.skip_spaces.result.now ok.ended.rest.now ok.ended.end.now _ _
    (map node_view c.loop-attribute.found.items) (map node_view c.push_attribute.new.found.items) _
    (seen_from attribute_of items i item c.loop-attribute-test.true c.attribute-item.is refl) c.skip_spaces.ensures ok.ensures.rest ok.ensures.end ok.ensures.added
    c.loop-attribute.invariant.0 c.loop-attribute.invariant.1 c.loop-attribute.invariant.2
