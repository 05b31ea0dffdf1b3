use Rattle.std.proofs.Common.{◌≡◌}
use Rattle.fluent_serve.specs.Devices.{HasGiven}
use Rattle.fluent_serve.proofs.Runs.{SoFar}
use Rattle.fluent_serve.proofs.serve.answer_all.Given as goal

-- what was read so far is answered, no device failed, and each call of `read` gave a byte
abbrev pub invariant-loop : goal.invariant-loop
invariant-loop g l = record {
  so_far : SoFar (g.R.Source.remaining l.fn.reader) (g.R.Source.remaining l.reader) (g.W.Sink.contents l.fn.writer) (g.W.Sink.contents l.writer)
      l.waiting.line.items l.waiting.output.items (g.E.Engine.reply l.engine) l.counter;
  given : HasGiven (g.R.Source.given l.fn.reader) (g.R.Source.given l.reader) l.counter;
  reader : g.R.Source.failures l.reader ≡ g.R.Source.failures l.fn.reader;
  writer : g.W.Sink.failures l.writer ≡ g.W.Sink.failures l.fn.writer;
}
