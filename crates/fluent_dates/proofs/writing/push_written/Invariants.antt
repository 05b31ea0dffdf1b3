use Rattle.std.proofs.Common.{◌≡◌, ◌++◌, drop, string_bytes}
use Rattle.fluent_dates.specs.Writing.{written}
use Rattle.fluent_dates.proofs.writing.push_written.Given as goal

-- the items that are left make the text whole
abbrev pub invariant-loop-item : goal.invariant-loop-item
invariant-loop-item l =
    string_bytes l.text ++ written l.row l.value l.items (drop l.item-index l.items)
    ≡ string_bytes l.initial.text ++ written l.row l.value l.items l.items
