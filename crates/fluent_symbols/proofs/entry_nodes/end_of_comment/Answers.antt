use Rattle.fluent_symbols.proofs.LinePlaces.{end_kept}
use Rattle.fluent_symbols.proofs.entry_nodes.end_of_comment.Goals as goal

pub loop-line-preserved : goal.loop-line-preserved
loop-line-preserved c =
    end_kept c.deref-line-items.result.now (λ s. s.now) c.loop-line._line-index c.loop-line.end.now c.loop-line.rest.now c.line_end-end-in-loop-line.result.now c.next_line-rest.result.now _ c.loop-line-test.true c.line_end-end-in-loop-line.ensures c.next_line-rest.ensures c.loop-line.invariant
