use Rattle.std.proofs.Common.{string_bytes, []}
use Rattle.lint_report.proofs.Items.{PiecesSoFar}
use Rattle.lint_report.specs.Formats.{format_view}
use Rattle.ftl_project.specs.Reports.{group_text, group_view}
use Rattle.ftl_project.proofs.report.text_of_groups.Given as goal

abbrev pub invariant-loop-group : goal.invariant-loop-group
invariant-loop-group l =
    PiecesSoFar (λ g. group_text (format_view l.output.format) l.output.notes (group_view g)) l.groups [] l.group-index (string_bytes l.text)
