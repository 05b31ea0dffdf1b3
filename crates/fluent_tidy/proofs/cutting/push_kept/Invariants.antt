use Rattle.std.proofs.Common.{string_bytes}
use Rattle.fluent_tidy.proofs.Kept.{Cutting}
use Rattle.fluent_tidy.proofs.cutting.push_kept.Given as goal

-- what is left to do
abbrev pub invariant-loop-error : goal.invariant-loop-error
invariant-loop-error l = Cutting (string_bytes l.initial.text) l.source l.found (string_bytes l.text) l.end l.error-index
