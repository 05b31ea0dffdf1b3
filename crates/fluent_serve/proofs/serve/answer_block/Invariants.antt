use Rattle.std.proofs.Common.{◌≡◌, ◌++◌, length}
use Rattle.fluent_serve.specs.Lines.{IsUnfinished}
use Rattle.fluent_serve.proofs.Serving.{Answered}
use Rattle.fluent_serve.proofs.serve.answer_block.Given as goal

-- the first lines of the block are answered
abbrev pub invariant-loop-end : goal.invariant-loop-end
invariant-loop-end g l = record {
  answered : Answered (g.W.Sink.contents l.fn.writer) l.fn.waiting.output.items (g.W.Sink.contents l.writer) l.waiting.output.items (g.E.Engine.reply l.engine)
      (l.fn.waiting.line.items ++ l.fn.block) (l.waiting.line.items ++ l.rest);
  line : IsUnfinished l.waiting.line.items;
  failures : g.W.Sink.failures l.writer ≡ g.W.Sink.failures l.fn.writer;
}

abbrev pub decreases-loop-end : goal.decreases-loop-end
decreases-loop-end g l = length l.rest
