use Rattle.std.proofs.Common.{codes}
use Rattle.ftl_arguments.specs.Commands.{default_rule, flag_rule, reported_rules, shaped, with_argument}
use Rattle.ftl_arguments.proofs.program.reporting.Goals as goal

pub returns : goal.returns
returns c =
    let begun = shaped (codes "lint") reported_rules in
    let strict = c.with_argument-command.ensures begun (flag_rule (codes "strict")) c.choosing.ensures c.strict.ensures in
    let report_format = c.with_argument.ensures (with_argument begun (flag_rule (codes "strict"))) (default_rule (codes "format") (codes "text")) strict c.report_format.ensures in
    c.with_argument-2.ensures (with_argument (with_argument begun (flag_rule (codes "strict"))) (default_rule (codes "format") (codes "text"))) (default_rule (codes "color") (codes "auto")) report_format c.colours.ensures
