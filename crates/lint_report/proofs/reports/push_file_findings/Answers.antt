use Rattle.std.proofs.Common.{◌∙◌, ◌≤◌, ap, arith, length, string_bytes, ◌++◌}
use Rattle.lint_report.specs.View.{in_file}
use Rattle.lint_report.specs.Formats.{shown_piece}
use Rattle.lint_report.proofs.Items.{pieces_at_last, of_file}
use Rattle.lint_report.proofs.reports.push_file_findings.Goals as goal

pub returns : goal.returns
returns c =
    let all : length c.args.findings.now.findings.items ≤ c.loop-finding.finding-index =
    omega (arith, ap length c.deref-finding-items.ensures.value, c.loop-finding-test.false) in
    pieces_at_last (λ f. shown_piece c.args.format c.args.notes (in_file c.args.findings.now.file f)) c.args.findings.now.findings.items
    (string_bytes c.args.text.now) c.loop-finding.finding-index (string_bytes c.loop-finding.text) all c.loop-finding.invariant.written
    ∙ ap (λ t. string_bytes c.args.text.now ++ t) (of_file (shown_piece c.args.format c.args.notes) c.args.findings.now.file c.args.findings.now.findings.items)
