use Rattle.std.proofs.Common.{codes}
use Rattle.ftl_arguments.specs.Commands.{flag_rule, flagged_rules, option_rule, shaped, with_argument}
use Rattle.ftl_arguments.proofs.program.asking.Goals as goal

pub returns : goal.returns
returns c =
    let begun = shaped c.args.name.now flagged_rules in
    let locale = c.with_argument.ensures begun (option_rule (codes "locale")) c.flagged.ensures c.locale.ensures in
    c.with_argument-2.ensures (with_argument begun (option_rule (codes "locale"))) (flag_rule (codes "plain-numbers")) locale c.plain_numbers.ensures
