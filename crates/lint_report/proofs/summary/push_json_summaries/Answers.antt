use Rattle.std.proofs.Common.{◌∙◌, ap, sym, string_bytes, ◌++◌}
use Rattle.std.proofs.lemmas.List.Folds.{flat_map-map}
use Rattle.lint_findings.specs.JsonReport.{json_line}
use Rattle.lint_findings.specs.Summary.{summary_data}
use Rattle.lint_report.specs.ReportView.{summary_view}
use Rattle.lint_report.proofs.Items.{pieces_at_last}
use Rattle.lint_report.proofs.summary.push_json_summaries.Goals as goal

pub returns : goal.returns
returns c =
    pieces_at_last (λ s. json_line (summary_data (summary_view s))) c.args.summaries.now (string_bytes c.args.text.now) c.loop-summary.summary-index
    (string_bytes c.loop-summary.text) c.loop-summary-test.false c.loop-summary.invariant
    ∙ ap (λ t. string_bytes c.args.text.now ++ t) (sym (flat_map-map (λ s. json_line (summary_data s)) summary_view c.args.summaries.now))
