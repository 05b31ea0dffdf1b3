use Rattle.std.proofs.Common.{◌≡◌, ◌++◌, replicate, string_bytes}
use Rattle.fluent_dates.specs.Numbers.{natives}
use Rattle.fluent_dates.proofs.numbers.push_zeros.Given as goal

-- this many zeros were written
abbrev pub invariant-loop : goal.invariant-loop
invariant-loop l = string_bytes l.text ≡ string_bytes l.initial.text ++ natives l.glyphs (replicate l.counter 48)
