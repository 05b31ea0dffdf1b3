use Rattle.std.proofs.Common.{◌∙◌, ◌≤◌, ◌++◌, ap, arith, length, option_copied, string_bytes}
use Rattle.lint_report.proofs.Items.{of_file, pieces_at_last}
use Rattle.lint_report.specs.View.{in_file}
use Rattle.ftl_project.specs.JsonLines.{json_piece}
use Rattle.ftl_project.proofs.json.push_file.Goals as goal

pub returns : goal.returns
returns c =
    let piece = json_piece (option_copied c.args.locale) c.args.notes in
    let all : length c.args.found.now.findings.items ≤ c.loop-finding.finding-index =
    omega (arith, ap length c.deref-finding-items.ensures.value, c.loop-finding-test.false) in
    pieces_at_last (λ f. piece (in_file c.args.found.now.file f)) c.args.found.now.findings.items
    (string_bytes c.args.text.now) c.loop-finding.finding-index (string_bytes c.loop-finding.text) all c.loop-finding.invariant.written
    ∙ ap (λ t. string_bytes c.args.text.now ++ t) (of_file piece c.args.found.now.file c.args.found.now.findings.items)
