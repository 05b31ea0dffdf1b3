use Rattle.std.proofs.Common.{string_bytes, []}
use Rattle.lint_report.proofs.Items.{PiecesSoFar}
use Rattle.ftl_project.specs.Reports.{group_lines, group_view}
use Rattle.ftl_project.proofs.report.json_of_groups.Given as goal

abbrev pub invariant-loop-group : goal.invariant-loop-group
invariant-loop-group l = PiecesSoFar (λ g. group_lines l.notes (group_view g)) l.groups [] l.group-index (string_bytes l.text)
