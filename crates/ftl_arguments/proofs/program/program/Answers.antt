use Rattle.std.proofs.Common.{◌≡◌, ◌∙◌, ap, ap₂}
use Rattle.std.proofs.lemmas.Result.{IfOk-weaker}
use Rattle.clap.specs.Words.{App, app_of, with_subcommand}
use Rattle.ftl_arguments.specs.Commands.{bare_program, format_shape, program_app, run_shape, tidy_shape, with_reports, with_tidying}
use Rattle.ftl_arguments.proofs.program.program.Goals as goal

pub returns : goal.returns
unfolding program_app
returns c =
    let run : app_of c.in_ok-program.program ≡ with_subcommand bare_program run_shape =
    c.in_ok-program.ensures.shape c.in_ok-run.ensures.1 ∙ ap₂ with_subcommand c.in_ok-bare_program.ensures c.in_ok-run.ensures.0 in
    let format = c.in_ok-program-2.ensures ∙ ap (λ (a : App). with_subcommand a format_shape) run in
    let reports = c.in_ok-program-3.ensures ∙ ap with_reports format in
    let tidy = c.in_ok-program-4.ensures ∙ ap (λ (a : App). with_subcommand a tidy_shape) reports in
    IfOk-weaker c.with_tidying.result _ _ (λ m h. h ∙ ap with_tidying tidy) c.with_tidying.ensures
