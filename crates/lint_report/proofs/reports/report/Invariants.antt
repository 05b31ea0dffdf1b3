use Rattle.std.proofs.Common.{string_bytes, []}
use Rattle.std.specs.List.{flat_map}
use Rattle.lint_findings.specs.View.{file_findings_view}
use Rattle.lint_report.specs.Formats.{shown_piece}
use Rattle.lint_report.proofs.Items.{PiecesSoFar}
use Rattle.lint_report.proofs.reports.report.Given as goal

abbrev pub invariant-loop-file : goal.invariant-loop-file
invariant-loop-file l =
    PiecesSoFar (λ f. flat_map (shown_piece l.format l.notes) (file_findings_view f)) l.findings [] l.file-index (string_bytes l.text)
