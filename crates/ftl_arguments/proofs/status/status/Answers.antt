use Rattle.std.proofs.Common.{codes}
use Rattle.ftl_arguments.specs.Commands.{chosen_rules, default_rule, flag_rule, project_paths_rule, shaped, status_shape, with_argument}
use Rattle.ftl_arguments.proofs.Added.{helped}
use Rattle.ftl_arguments.proofs.status.status.Goals as goal

pub returns : goal.returns
returns c =
    let begun = shaped (codes "status") chosen_rules in
    let files = c.with_argument.ensures begun (flag_rule (codes "files")) c.choosing.ensures c.files.ensures in
    let table_format = c.with_argument-command.ensures (with_argument begun (flag_rule (codes "files"))) (default_rule (codes "format") (codes "text")) files c.table_format.ensures in
    helped status_shape c.in_ok-command.command c.after_help.result _ c.after_help.ensures
    (c.in_ok-command.ensures (with_argument (with_argument begun (flag_rule (codes "files"))) (default_rule (codes "format") (codes "text"))) project_paths_rule table_format c.project_paths.ensures)
