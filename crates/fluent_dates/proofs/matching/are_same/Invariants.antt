use Rattle.std.proofs.Common.{◌≡◌, drop}
use Rattle.fluent_dates.specs.Exact.{are_same}
use Rattle.fluent_dates.proofs.matching.are_same.Given as goal

-- the measures that are left decide
abbrev pub invariant-loop-place : goal.invariant-loop-place
invariant-loop-place l = are_same (drop l.place l.wanted) (drop l.place l.known) ≡ are_same l.wanted l.known
