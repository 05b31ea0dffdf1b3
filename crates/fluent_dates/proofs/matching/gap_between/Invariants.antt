use Rattle.std.proofs.Common.{◌≡◌, drop}
use Rattle.fluent_dates.specs.Matching.{gap_between, gap_from}
use Rattle.fluent_dates.proofs.matching.gap_between.Given as goal

-- the measures that are left make the gap whole
abbrev pub invariant-loop-place : goal.invariant-loop-place
invariant-loop-place l =
    gap_from l.bit l.gap (drop l.place l.wanted) (drop l.place l.known) ≡ gap_between l.wanted l.known
