use Rattle.std.proofs.Common.{◌≡◌, ◌≤◌, ◌-◌, true, length, drop}
use Rattle.lint_entries.specs.Starts.{next_start}
use Rattle.lint_entries.proofs.start.next_start.Given as goal

abbrev pub invariant-loop-start : goal.invariant-loop-start
invariant-loop-start l = record {
  within : l.start ≤ length l.text;
  same : next_start l.column_zero (drop l.start l.text) ≡ next_start true l.text;
}

abbrev pub decreases-loop-start : goal.decreases-loop-start
decreases-loop-start l = length l.text - l.start
