use Rattle.std.proofs.Common.{◌≡◌}
use Rattle.std.specs.Io.KnownBytes.{Consumes}
use Rattle.fluent_serve.specs.Devices.{HasGiven}
use Rattle.ftl_command.proofs.input.read_blocks.Given as goal

-- what was read so far is kept, no read failed, and each gave a byte
abbrev pub invariant-loop : goal.invariant-loop
invariant-loop g l = record {
  read : Consumes (g.I.Source.remaining l.fn.reader) (g.I.Source.remaining l.reader) l.bytes.items;
  given : HasGiven (g.I.Source.given l.fn.reader) (g.I.Source.given l.reader) l.counter;
  failures : g.I.Source.failures l.reader ≡ g.I.Source.failures l.fn.reader;
}
