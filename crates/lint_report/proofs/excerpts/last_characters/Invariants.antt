use Rattle.std.proofs.Common.{◌-◌, ◌≤◌}
use Rattle.lint_report.proofs.Passing.{EndPassed}
use Rattle.lint_report.proofs.excerpts.last_characters.Given as goal

abbrev pub invariant-loop-count : goal.invariant-loop-count
invariant-loop-count l = record {
  passed : EndPassed l.text l.front.rest.now l.count;
  few : l.count ≤ l.most;
}

abbrev pub decreases-loop-count : goal.decreases-loop-count
decreases-loop-count l = l.most - l.count
