use Rattle.std.proofs.Common.{◌∙◌, string_bytes, []}
use Rattle.lint_report.proofs.Items.{pieces_at_last}
use Rattle.ftl_project.specs.Reports.{group_lines, group_view}
use Rattle.ftl_project.proofs.Pieces.{of_views}
use Rattle.ftl_project.proofs.report.json_of_groups.Goals as goal

pub returns : goal.returns
returns c =
    pieces_at_last (λ g. group_lines c.args.notes (group_view g)) c.args.groups.now [] c.loop-group.group-index
    (string_bytes c.loop-group.text) c.loop-group-test.false c.loop-group.invariant
    ∙ of_views (group_lines c.args.notes) group_view c.args.groups.now
