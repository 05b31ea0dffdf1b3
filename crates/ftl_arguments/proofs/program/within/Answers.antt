use Rattle.std.proofs.Common.{codes}
use Rattle.ftl_arguments.specs.Commands.{each_rule, linting_rules, shaped, with_argument}
use Rattle.ftl_arguments.proofs.program.within.Goals as goal

pub returns : goal.returns
returns c =
    let begun = shaped (codes "lint") linting_rules in
    let only = c.with_argument.ensures begun (each_rule (codes "only")) c.reporting.ensures c.only.ensures in
    c.with_argument-2.ensures (with_argument begun (each_rule (codes "only"))) (each_rule (codes "define")) only c.variable.ensures
