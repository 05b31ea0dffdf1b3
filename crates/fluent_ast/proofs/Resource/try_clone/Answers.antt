use Rattle.std.proofs.Common.{ap, ◌∙◌, map}
use Rattle.fluent_ast.specs.View.{entry_view}
use Rattle.fluent_ast.proofs.Copied.{map-copied_more}
use Rattle.fluent_ast.proofs.Resource.try_clone.Goals as goal

pub loop-entry-preserved : goal.loop-entry-preserved
loop-entry-preserved g c =
    let view = entry_view g.row.S.Denot g.S.Slice.text in
    ap (map view) c.in_ok-push.ensures.items ∙ map-copied_more view c.loop-entry.body.items c.deref-entry-items.result.now c.loop-entry.entry-index c.in_ok-try_clone.field-0 c.entry-item.result c.loop-entry-test.true c.entry-item.is c.in_ok-try_clone.ensures c.loop-entry.invariant
