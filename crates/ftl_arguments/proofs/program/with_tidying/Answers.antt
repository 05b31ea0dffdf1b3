use Rattle.std.proofs.Common.{◌∙◌, ap, codes}
use Rattle.std.proofs.lemmas.Result.{IfOk-weaker}
use Rattle.clap.specs.Words.{App}
use Rattle.ftl_arguments.specs.Commands.{with_command, file_rule, files_rule}
use Rattle.ftl_arguments.proofs.program.with_tidying.Goals as goal

pub returns : goal.returns
returns c =
    let clean = c.in_ok-program.ensures in
    let normalize = c.in_ok-program-2.ensures ∙ ap (λ (a : App). with_command a (codes "normalize") file_rule) clean in
    let join = c.in_ok-program-3.ensures ∙ ap (λ (a : App). with_command a (codes "join") files_rule) normalize in
    let export = c.in_ok-program-4.ensures ∙ ap (λ (a : App). with_command a (codes "export") file_rule) join in
    IfOk-weaker c.with_file-4.result _ _ (λ m h. h ∙ ap (λ (a : App). with_command a (codes "import") file_rule) export) c.with_file-4.ensures
