use Rattle.std.proofs.Common.{codes}
use Rattle.ftl_arguments.specs.Commands.{each_rule, known_rules, shaped, with_argument}
use Rattle.ftl_arguments.proofs.program.filtering.Goals as goal

pub returns : goal.returns
returns c =
    let begun = shaped (codes "lint") known_rules in
    let ignored = c.with_argument.ensures begun (each_rule (codes "ignore")) c.comparing.ensures c.ignored.ensures in
    c.with_argument-2.ensures (with_argument begun (each_rule (codes "ignore"))) (each_rule (codes "select")) ignored c.selected.ensures
