use Rattle.std.proofs.Common.{◌∙◌, [], ◌∷◌, ap}
use Rattle.std.proofs.lemmas.Result.{IfOk-weaker}
use Rattle.clap.specs.Words.{app_of, rule_of}
use Rattle.ftl_arguments.specs.Commands.{shaped, with_command}
use Rattle.ftl_arguments.proofs.program.with_file.Goals as goal

pub returns : goal.returns
returns c =
    let name = c.args.name.now in
    IfOk-weaker c.with_subcommand.result _ _
    (λ more is. is ∙ ap (with_command (app_of c.args.program) name) c.file.ensures.0)
    (c.with_subcommand.ensures (shaped name (rule_of c.file.result ∷ [])) (c.command_of.ensures c.file.ensures.1))
