use Rattle.std.proofs.Common.{string_bytes}
use Rattle.lint_findings.specs.JsonReport.{json_line}
use Rattle.lint_findings.specs.Summary.{summary_data}
use Rattle.lint_report.specs.ReportView.{summary_view}
use Rattle.lint_report.proofs.Items.{PiecesSoFar}
use Rattle.lint_report.proofs.summary.push_json_summaries.Given as goal

abbrev pub invariant-loop-summary : goal.invariant-loop-summary
invariant-loop-summary l =
    PiecesSoFar (λ s. json_line (summary_data (summary_view s))) l.summaries (string_bytes l.fn.text) l.summary-index (string_bytes l.text)
