use Rattle.std.proofs.Common.{[], codes}
use Rattle.ftl_arguments.specs.Commands.{each_rule, option_rule, shaped, with_argument}
use Rattle.ftl_arguments.proofs.status.choosing.Goals as goal

pub returns : goal.returns
returns c =
    let begun = shaped (codes "status") [] in
    let reference = c.with_argument-command.ensures begun (each_rule (codes "reference")) c.named.ensures c.reference.ensures in
    let locales = c.with_argument.ensures (with_argument begun (each_rule (codes "reference"))) (option_rule (codes "locale")) reference c.locales.ensures in
    c.with_argument-2.ensures (with_argument (with_argument begun (each_rule (codes "reference"))) (option_rule (codes "locale"))) (each_rule (codes "define")) locales c.variable.ensures
