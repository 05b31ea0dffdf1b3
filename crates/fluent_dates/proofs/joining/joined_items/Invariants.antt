use Rattle.std.proofs.Common.{◌≡◌, ◌++◌, drop}
use Rattle.fluent_dates.specs.Patterns.{joined_items}
use Rattle.fluent_dates.proofs.joining.joined_items.Given as goal

-- the items of the form that are left make the pattern whole
abbrev pub invariant-loop-item : goal.invariant-loop-item
invariant-loop-item l =
    l.out.items ++ joined_items l.first l.second l.name (drop l.item-index l.form) ≡ joined_items l.first l.second l.name l.form
