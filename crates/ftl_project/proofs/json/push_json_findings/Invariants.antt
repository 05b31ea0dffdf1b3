use Rattle.std.proofs.Common.{option_copied, string_bytes}
use Rattle.std.specs.List.{flat_map}
use Rattle.lint_findings.specs.View.{file_findings_view}
use Rattle.lint_report.proofs.Items.{PiecesSoFar}
use Rattle.ftl_project.specs.JsonLines.{json_piece}
use Rattle.ftl_project.proofs.json.push_json_findings.Given as goal

abbrev pub invariant-loop-file : goal.invariant-loop-file
invariant-loop-file l =
    PiecesSoFar (λ f. flat_map (json_piece (option_copied l.locale) l.notes) (file_findings_view f)) l.found (string_bytes l.fn.text) l.file-index (string_bytes l.text)
