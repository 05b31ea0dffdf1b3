use Rattle.std.proofs.Common.{◌≡◌, ◌++◌, drop, map, take}
use Rattle.fluent_dates.specs.Matching.{found_view}
use Rattle.fluent_dates.specs.Patterns.{adjusted, adjusted_item}
use Rattle.fluent_dates.proofs.adjusting.adjusted.Given as goal

-- the items that are left, adjusted, make the pattern whole
abbrev pub invariant-loop-item : goal.invariant-loop-item
invariant-loop-item l =
    take l.item-index l.item-items ++ map (adjusted_item l.row (found_view l.known) l.wanted) (drop l.item-index l.item-items)
    ≡ adjusted l.row (found_view l.known) l.wanted
