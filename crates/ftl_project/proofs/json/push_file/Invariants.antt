use Rattle.std.proofs.Common.{option_copied, string_bytes}
use Rattle.lint_findings.specs.PlaceView.{IsPlaceIn}
use Rattle.lint_report.proofs.Items.{PiecesSoFar}
use Rattle.lint_report.specs.View.{in_file}
use Rattle.ftl_project.specs.JsonLines.{json_piece}
use Rattle.ftl_project.proofs.json.push_file.Given as goal

abbrev pub invariant-loop-finding : goal.invariant-loop-finding
invariant-loop-finding l = record {
  place : IsPlaceIn l.found.file.source.now l.place;
  written : PiecesSoFar (λ f. json_piece (option_copied l.locale) l.notes (in_file l.found.file f)) l.found.findings.items (string_bytes l.fn.text)
      l.finding-index (string_bytes l.text);
}
