use Rattle.std.proofs.Common.{◌≡◌, drop, option_map}
use Rattle.fluent_dates.specs.Matching.{found_view, nearest_of}
use Rattle.fluent_dates.proofs.matching.nearest_of.Given as goal

-- the pairs that are left make the nearest
abbrev pub invariant-loop-pair : goal.invariant-loop-pair
invariant-loop-pair l =
    nearest_of (option_map found_view l.best) (drop l.pair-index l.pairs) l.wanted
    ≡ nearest_of (option_map found_view l.before) l.pairs l.wanted
