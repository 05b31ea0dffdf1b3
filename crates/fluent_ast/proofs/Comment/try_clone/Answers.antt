use Rattle.std.proofs.Common.{ap, ◌∙◌, map}
use Rattle.fluent_ast.proofs.Copied.{map-copied_more}
use Rattle.fluent_ast.proofs.Comment.try_clone.Goals as goal

pub loop-line-preserved : goal.loop-line-preserved
loop-line-preserved g c =
    let view = g.S.Slice.text in
    ap (map view) c.in_ok-push.ensures.items ∙ map-copied_more view c.loop-line.content.items c.deref-line-items.result.now c.loop-line.line-index c.in_ok-copy.copy c.line-item.result c.loop-line-test.true c.line-item.is c.in_ok-copy.ensures c.loop-line.invariant
