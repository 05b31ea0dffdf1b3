use Rattle.std.proofs.Common.{codes}
use Rattle.ftl_arguments.specs.Commands.{option_rule, shaped, with_argument, within_rules}
use Rattle.ftl_arguments.proofs.program.in_project.Goals as goal

pub returns : goal.returns
returns c =
    let begun = shaped (codes "lint") within_rules in
    let baseline = c.with_argument.ensures begun (option_rule (codes "baseline")) c.within.ensures c.baseline.ensures in
    c.with_argument-2.ensures (with_argument begun (option_rule (codes "baseline"))) (option_rule (codes "write-baseline")) baseline c.written.ensures
