use Rattle.std.proofs.Common.{◌≡◌, ◌++◌, drop}
use Rattle.fluent_dates.specs.Patterns.{with_fraction}
use Rattle.fluent_dates.proofs.joining.with_fraction.Given as goal

-- the items that are left make the pattern whole
abbrev pub invariant-loop-item : goal.invariant-loop-item
invariant-loop-item l =
    l.out.items ++ with_fraction l.row l.fraction (drop l.item-index l.items) ≡ with_fraction l.row l.fraction l.items
