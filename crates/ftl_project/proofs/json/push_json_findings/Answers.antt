use Rattle.std.proofs.Common.{◌∙◌, ◌++◌, ap, option_copied, string_bytes}
use Rattle.std.specs.List.{flat_map}
use Rattle.lint_findings.specs.View.{file_findings_view, findings_view}
use Rattle.lint_report.proofs.Items.{pieces_at_last}
use Rattle.ftl_project.specs.JsonLines.{json_piece}
use Rattle.ftl_project.proofs.Pieces.{json_shown, of_files}
use Rattle.ftl_project.proofs.json.push_json_findings.Goals as goal

pub returns : goal.returns
returns c =
    let piece = json_piece (option_copied c.args.locale) c.args.notes in
    pieces_at_last (λ f. flat_map piece (file_findings_view f)) c.args.found.now (string_bytes c.args.text.now) c.loop-file.file-index
    (string_bytes c.loop-file.text) c.loop-file-test.false c.loop-file.invariant
    ∙ ap (λ t. string_bytes c.args.text.now ++ t)
    (of_files piece c.args.found.now ∙ json_shown (option_copied c.args.locale) c.args.notes (findings_view c.args.found.now))
