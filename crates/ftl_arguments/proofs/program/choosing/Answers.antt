use Rattle.std.proofs.Common.{codes}
use Rattle.ftl_arguments.specs.Commands.{filtered_rules, flag_rule, shaped, with_argument}
use Rattle.ftl_arguments.proofs.program.choosing.Goals as goal

pub returns : goal.returns
returns c =
    let begun = shaped (codes "lint") filtered_rules in
    let notes = c.with_argument.ensures begun (flag_rule (codes "notes")) c.filtering.ensures c.notes.ensures in
    c.with_argument-2.ensures (with_argument begun (flag_rule (codes "notes"))) (flag_rule (codes "counts")) notes c.counts.ensures
