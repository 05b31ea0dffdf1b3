use Rattle.std.proofs.Common.{◌≡◌, take}
use Rattle.lint_findings.specs.View.{findings_view}
use Rattle.fluent_lint.specs.Counting.{is_counted}
use Rattle.fluent_lint.specs.Totals.{found_count}
use Rattle.fluent_lint.proofs.totals.count.Given as goal

abbrev pub invariant-loop-file : goal.invariant-loop-file
invariant-loop-file l = l.total ≡ found_count (is_counted l.counted) (findings_view (take l.file-index l.findings))
