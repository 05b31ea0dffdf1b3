use Rattle.std.proofs.Common.{◌≡◌, ◌++◌, ℕ, List, string_bytes}
use Rattle.fluent_dates.specs.Items.{at_start, items_of, read}
use Rattle.fluent_dates.specs.Writing.{written}
use Rattle.fluent_dates.proofs.streaming.push_pattern.Given as goal

-- whatever is read on, the text becomes that of the whole
abbrev pub invariant-loop-c : goal.invariant-loop-c
invariant-loop-c l =
    (rest : List ℕ) → string_bytes l.text ++ written l.row l.value (items_of l.pattern) (read l.reading rest)
    ≡ string_bytes l.initial.text ++ written l.row l.value (items_of l.pattern) (read at_start (l.yielded ++ rest))
