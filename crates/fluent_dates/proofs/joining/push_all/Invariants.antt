use Rattle.std.proofs.Common.{◌≡◌, ◌++◌, drop}
use Rattle.fluent_dates.proofs.joining.push_all.Given as goal

-- the items that are left make the list whole
abbrev pub invariant-loop-item : goal.invariant-loop-item
invariant-loop-item l = l.items.items ++ drop l.item-index l.more ≡ l.initial.items.items ++ l.more
