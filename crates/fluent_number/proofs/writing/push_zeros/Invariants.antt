use Rattle.std.proofs.Common.{◌≡◌, ◌++◌, replicate, string_bytes}
use Rattle.fluent_number.proofs.writing.push_zeros.Given as goal

-- this many zeros were written
abbrev pub invariant-loop : goal.invariant-loop
invariant-loop l = string_bytes l.text ≡ string_bytes l.initial.text ++ replicate l.counter 48
