use Rattle.std.proofs.Common.{[], codes}
use Rattle.ftl_arguments.specs.Commands.{each_rule, option_rule, shaped, with_argument}
use Rattle.ftl_arguments.proofs.program.comparing.Goals as goal

pub returns : goal.returns
returns c =
    let begun = shaped (codes "lint") [] in
    let reference = c.with_argument-command.ensures begun (each_rule (codes "reference")) c.named.ensures c.reference.ensures in
    let function = c.with_argument.ensures (with_argument begun (each_rule (codes "reference"))) (each_rule (codes "function")) reference c.function.ensures in
    c.with_argument-2.ensures (with_argument (with_argument begun (each_rule (codes "reference"))) (each_rule (codes "function"))) (option_rule (codes "locale")) function c.categories.ensures
