use Rattle.std.proofs.Common.{◌≡◌, ℕ, List, ◌++◌}
use Rattle.fluent_dates.specs.Items.{at_start, read}
use Rattle.fluent_dates.proofs.items.items_of.Given as goal

-- whatever is read on, the items make the whole
abbrev pub invariant-loop-c : goal.invariant-loop-c
invariant-loop-c l = (rest : List ℕ) → l.items.items ++ read l.reading rest ≡ read at_start (l.yielded ++ rest)
