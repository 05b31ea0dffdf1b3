use Rattle.std.proofs.Common.{string_bytes}
use Rattle.lint_findings.specs.PlaceView.{IsPlaceIn}
use Rattle.lint_report.specs.Formats.{shown_piece}
use Rattle.lint_report.specs.View.{in_file}
use Rattle.lint_report.proofs.Items.{PiecesSoFar}
use Rattle.lint_report.proofs.reports.push_file_findings.Given as goal

abbrev pub invariant-loop-finding : goal.invariant-loop-finding
invariant-loop-finding l = record {
  place : IsPlaceIn l.findings.file.source.now l.place;
  written : PiecesSoFar (λ f. shown_piece l.format l.notes (in_file l.findings.file f)) l.findings.findings.items (string_bytes l.fn.text)
      l.finding-index (string_bytes l.text);
}
