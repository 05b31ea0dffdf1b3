use Rattle.std.proofs.Common.{◌∙◌, ap}
use Rattle.std.proofs.lemmas.Result.{IfOk-weaker}
use Rattle.clap.specs.Words.{App, with_subcommand}
use Rattle.ftl_arguments.specs.Commands.{lint_shape, status_shape}
use Rattle.ftl_arguments.proofs.program.with_reports.Goals as goal

pub returns : goal.returns
returns c =
    let lint = c.in_ok-program-2.ensures ∙ ap (λ (a : App). with_subcommand a lint_shape) c.in_ok-program.ensures in
    IfOk-weaker c.with_status.result _ _ (λ m h. h ∙ ap (λ (a : App). with_subcommand a status_shape) lint) c.with_status.ensures
