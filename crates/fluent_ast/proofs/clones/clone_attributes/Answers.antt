use Rattle.std.proofs.Common.{ap, ◌∙◌, map}
use Rattle.fluent_ast.specs.View.{attribute_view}
use Rattle.fluent_ast.proofs.Copied.{map-copied_more}
use Rattle.fluent_ast.proofs.clones.clone_attributes.Goals as goal

pub loop-attribute-preserved : goal.loop-attribute-preserved
loop-attribute-preserved g c =
    let view = attribute_view g.row.S.Denot g.S.Slice.text in
    ap (map view) c.in_ok-push.ensures.items ∙ map-copied_more view c.loop-attribute.copies.items c.args.attributes.now c.loop-attribute.attribute-index c.in_ok-try_clone.field-0 c.attribute-item.result c.loop-attribute-test.true c.attribute-item.is c.in_ok-try_clone.ensures c.loop-attribute.invariant
