use Rattle.std.proofs.Common.{◌≡◌, ◌∙◌, ap, map, string_bytes, [], ◌++◌}
use Rattle.std.proofs.lemmas.Result.{IfOk-weaker}
use Rattle.std.specs.List.{flat_map}
use Rattle.lint_findings.specs.View.{file_findings_view, findings_view}
use Rattle.lint_findings.specs.Report.{shown}
use Rattle.lint_report.specs.Formats.{document_output, report_output, shown_piece, summaries_output}
use Rattle.lint_report.specs.ReportView.{summary_view}
use Rattle.lint_report.proofs.Items.{pieces_at_last, output_is}
use Rattle.lint_report.proofs.reports.report.Goals as goal

pub returns : goal.returns
returns c =
    let ss = map summary_view c.args.summaries.now in
    let written = pieces_at_last (λ f. flat_map (shown_piece c.args.format c.args.notes) (file_findings_view f)) c.args.findings.now [] c.loop-file.file-index
    (string_bytes c.loop-file.text) c.loop-file-test.false c.loop-file.invariant in
    let whole = c.in_ok-push_summaries.ensures ∙ ap (λ t. t ++ summaries_output c.args.format ss) written in
    IfOk-weaker c.in_document.result (λ text. string_bytes text ≡ document_output c.args.format (string_bytes c.push_summaries.new.text))
    (λ text. string_bytes text ≡ report_output c.args.format c.args.notes c.args.findings.now c.args.summaries.now)
    (λ text is. is ∙ ap (document_output c.args.format) whole ∙ output_is c.args.format c.args.notes c.args.findings.now ss)
    c.in_document.ensures
