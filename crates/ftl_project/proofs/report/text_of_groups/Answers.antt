use Rattle.std.proofs.Common.{◌∙◌, string_bytes, []}
use Rattle.lint_report.proofs.Items.{pieces_at_last}
use Rattle.lint_report.specs.Formats.{format_view}
use Rattle.ftl_project.specs.Reports.{group_text, group_view}
use Rattle.ftl_project.proofs.Pieces.{of_views}
use Rattle.ftl_project.proofs.report.text_of_groups.Goals as goal

pub returns : goal.returns
returns c =
    pieces_at_last (λ g. group_text (format_view c.args.output.format) c.args.output.notes (group_view g)) c.args.groups.now [] c.loop-group.group-index
    (string_bytes c.loop-group.text) c.loop-group-test.false c.loop-group.invariant
    ∙ of_views (group_text (format_view c.args.output.format) c.args.output.notes) group_view c.args.groups.now
