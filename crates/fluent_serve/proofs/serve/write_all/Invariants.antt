use Rattle.std.proofs.Common.{◌≡◌, length}
use Rattle.fluent_serve.proofs.Exchange.{Written}
use Rattle.fluent_serve.proofs.serve.write_all.Given as goal

-- a front of the bytes is written
abbrev pub invariant-loop-rest : goal.invariant-loop-rest
invariant-loop-rest g l = record {
  sent : Written (g.W.Sink.contents l.fn.writer) (g.W.Sink.contents l.writer) l.fn.bytes l.rest;
  failures : g.W.Sink.failures l.writer ≡ g.W.Sink.failures l.fn.writer;
}

abbrev pub decreases-loop-rest : goal.decreases-loop-rest
decreases-loop-rest g l = length l.rest
