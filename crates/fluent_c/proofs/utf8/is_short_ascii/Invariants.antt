-- The bytes before the index are ASCII.
use Rattle.std.proofs.Common.{take}
use Rattle.std.specs.Str.{IsAscii}
use Rattle.fluent_c.proofs.utf8.is_short_ascii.Given as goal

abbrev pub invariant-loop-byte : goal.invariant-loop-byte
invariant-loop-byte l = IsAscii (take l.byte-index l.bytes)
