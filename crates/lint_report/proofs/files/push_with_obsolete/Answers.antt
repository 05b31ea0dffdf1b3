use Rattle.std.proofs.Common.{◌∙◌, ◌++◌, ap, map}
use Rattle.lint_findings.specs.Summary.{catalog_summary}
use Rattle.lint_findings.specs.View.{file_view, findings_view}
use Rattle.lint_report.specs.ReportView.{summary_view}
use Rattle.lint_report.proofs.Lists.{of_files, summed_all}
use Rattle.lint_report.proofs.files.push_with_obsolete.Goals as goal

pub returns : goal.returns
returns c =
    summed_all (λ m. catalog_summary (findings_view c.args.findings.now) (file_view m.file)) c.args.files.now c.args.summaries.now.items
    c.loop-file.summaries.items c.loop-file.file-index c.loop-file-test.false c.loop-file.invariant
    ∙ ap (λ l. map summary_view c.args.summaries.now.items ++ l) (of_files (catalog_summary (findings_view c.args.findings.now)) c.args.files.now)
