use Rattle.std.proofs.Common.{map, take, ap, sym, ◌∙◌}
use Rattle.fluent_grammar.specs.Written.{onto, attributes_signs}
use Rattle.fluent_grammar.proofs.LaidOut.{onto-nil, onto-then}
use Rattle.fluent_ast.proofs.Copied.{map-take_more}
use Rattle.fluent_serializer.proofs.Laid.{attributes_signs-append}
use Rattle.fluent_ast.specs.View.{attribute_view}
use Rattle.fluent_serializer.proofs.entries.write_attributes.Goals as goal

pub loop-attribute-init : goal.loop-attribute-init
loop-attribute-init g c = sym (onto-nil _)

pub loop-attribute-preserved : goal.loop-attribute-preserved
loop-attribute-preserved g c =
    let view = attribute_view g.row.S.Denot g.S.Slice.text in
    let items = c.args.attributes.now in
    let item = c.attribute-item.result in
    let before = map view (take c.loop-attribute.attribute-index items) in
    let more = map-take_more view items c.loop-attribute.attribute-index item c.loop-attribute-test.true c.attribute-item.is in
    onto-then _ _ _ c.loop-attribute.invariant c.in_ok-write_attribute.ensures ∙ ap (onto _) (sym (ap attributes_signs more ∙ attributes_signs-append before _))
