use Rattle.std.proofs.Common.{codes}
use Rattle.ftl_arguments.specs.Commands.{asking_rules, each_rule, files_rule, format_shape, id_rule, shaped, with_argument}
use Rattle.ftl_arguments.proofs.Added.{helped}
use Rattle.ftl_arguments.proofs.program.format.Goals as goal

pub returns : goal.returns
returns c =
    let begun = shaped (codes "format") asking_rules in
    let argument = c.with_argument.ensures begun (each_rule (codes "argument")) c.asking-command.ensures c.argument.ensures in
    let id = c.with_argument-command.ensures (with_argument begun (each_rule (codes "argument"))) id_rule argument c.id.ensures in
    helped format_shape c.in_ok-command.command c.after_help.result _ c.after_help.ensures
    (c.in_ok-command.ensures (with_argument (with_argument begun (each_rule (codes "argument"))) id_rule) files_rule id c.files.ensures)
