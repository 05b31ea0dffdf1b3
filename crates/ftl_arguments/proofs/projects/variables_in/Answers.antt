use Rattle.std.proofs.Common.{◌∙◌, ap, codes, refl}
use Rattle.std.proofs.lemmas.Result.{IfOk-weaker}
use Rattle.clap.specs.Words.{found_of}
use Rattle.fluent_serve.specs.Requests.{arguments_of}
use Rattle.ftl_arguments.specs.Meaning.{texts}
use Rattle.ftl_arguments.proofs.Found.{all}
use Rattle.ftl_arguments.proofs.projects.variables_in.Goals as goal

pub returns : goal.returns
returns c =
    IfOk-weaker c.read_arguments.result _ _
    (λ variables is. is
    ∙ ap (arguments_of (λ s. s)) (ap (λ s. texts s.now) c.unwrap_or.ensures ∙ all (codes "define") c.get_raw.result _ refl (found_of c.args.found.now) c.get_raw.ensures))
    c.read_arguments.ensures
