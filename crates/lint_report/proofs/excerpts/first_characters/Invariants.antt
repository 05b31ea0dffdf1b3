use Rattle.std.proofs.Common.{◌-◌, ◌≤◌}
use Rattle.lint_report.proofs.Passing.{FrontPassed}
use Rattle.lint_report.proofs.excerpts.first_characters.Given as goal

abbrev pub invariant-loop-count : goal.invariant-loop-count
invariant-loop-count l = record {
  passed : FrontPassed l.text l.rest.rest.now l.count;
  few : l.count ≤ l.most;
}

abbrev pub decreases-loop-count : goal.decreases-loop-count
decreases-loop-count l = l.most - l.count
