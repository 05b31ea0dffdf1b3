use Rattle.std.proofs.Common.{subst}
use Rattle.std.specs.Prelude.{IfOk}
use Rattle.std.proofs.lemmas.Result.{IfOk-weaker}
use Rattle.ftl_arguments.specs.Commands.{IsShaped}
use Rattle.ftl_arguments.proofs.Added.{added}
use Rattle.ftl_arguments.proofs.program.with_argument.Goals as goal

pub returns : goal.returns
returns c = λ shape rule is local.
    IfOk-weaker c.arg.result _ _
    (λ new adds. added shape rule c.in_ok-command.field-0 new c.args.argument adds (subst (λ r. IfOk r (IsShaped shape)) c.in_ok-command.was is) local)
    c.arg.ensures
