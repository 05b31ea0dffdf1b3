use Rattle.std.proofs.Common.{◌≡◌, ◌≤◌, ◌-◌, ◌++◌, ◌∷◌, map, length, drop}
use Rattle.fluent_tokens.specs.Table.{row_view, lines, line_at, later_lines}
use Rattle.fluent_tokens.specs.Swept.{Tells}
use Rattle.fluent_tokens.proofs.table.line_table.Given as goal

abbrev pub invariant-lines : goal.invariant-lines
invariant-lines l = record {
  within : l.start ≤ length l.text;
  told : Tells l.told (drop l.start l.text);
  rows : lines l.text ≡ map row_view l.rows.items ++ line_at l.start (drop l.start l.text) ∷ later_lines l.start (drop l.start l.text);
}

abbrev pub decreases-lines : goal.decreases-lines
decreases-lines l = length l.text - l.start
