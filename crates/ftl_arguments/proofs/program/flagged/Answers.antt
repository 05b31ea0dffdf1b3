use Rattle.std.proofs.Common.{[], codes}
use Rattle.ftl_arguments.specs.Commands.{flag_rule, shaped, with_argument}
use Rattle.ftl_arguments.proofs.program.flagged.Goals as goal

pub returns : goal.returns
returns c =
    let begun = shaped c.args.name.now [] in
    let not_isolating = c.with_argument-command.ensures begun (flag_rule (codes "no-isolating")) c.named.ensures c.not_isolating.ensures in
    c.with_argument.ensures (with_argument begun (flag_rule (codes "no-isolating"))) (flag_rule (codes "overriding")) not_isolating c.overriding.ensures
