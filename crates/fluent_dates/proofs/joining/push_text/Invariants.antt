use Rattle.std.proofs.Common.{◌≡◌, ◌++◌, map}
use Rattle.fluent_dates.specs.declared.items.Item.TheVariants as item
use Rattle.fluent_dates.proofs.joining.push_text.Given as goal

-- the characters until now were added
abbrev pub invariant-loop-c : goal.invariant-loop-c
invariant-loop-c l = l.items.items ≡ l.initial.items.items ++ map (λ c. item.Char c) l.yielded
