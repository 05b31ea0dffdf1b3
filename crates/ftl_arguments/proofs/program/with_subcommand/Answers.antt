use Rattle.std.proofs.Common.{subst}
use Rattle.std.specs.Prelude.{IfOk}
use Rattle.std.proofs.lemmas.Result.{IfOk-weaker}
use Rattle.ftl_arguments.specs.Commands.{IsShaped}
use Rattle.ftl_arguments.proofs.Added.{one_more}
use Rattle.ftl_arguments.proofs.program.with_subcommand.Goals as goal

pub returns : goal.returns
returns c = λ shape is.
    IfOk-weaker c.subcommand.result _ _
    (λ new adds. one_more shape c.args.program c.in_ok-command.field-0 new adds (subst (λ r. IfOk r (IsShaped shape)) c.in_ok-command.was is))
    c.subcommand.ensures
