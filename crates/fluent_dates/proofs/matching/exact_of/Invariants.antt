use Rattle.std.proofs.Common.{◌≡◌, drop}
use Rattle.fluent_dates.specs.Exact.{exact_of}
use Rattle.fluent_dates.proofs.matching.exact_of.Given as goal

-- none of the pairs before this one is for the fields
abbrev pub invariant-loop-pair : goal.invariant-loop-pair
invariant-loop-pair l = exact_of (drop l.pair-index l.pairs) l.wanted ≡ exact_of l.pairs l.wanted
