use Rattle.std.proofs.Common.{◌∙◌, ap, refl}
use Rattle.std.proofs.lemmas.Result.{IfOk-weaker}
use Rattle.ftl_arguments.specs.Meaning.{texts}
use Rattle.clap.specs.Words.{found_of}
use Rattle.ftl_arguments.proofs.Found.{all}
use Rattle.ftl_arguments.proofs.reading.values_in.Goals as goal

pub returns : goal.returns
returns c =
    IfOk-weaker c.from_slice.result _ _
    (λ values h. ap texts (h ∙ ap (λ s. s.now) c.unwrap_or.ensures) ∙ all c.args.name.now c.get_raw.result _ refl (found_of c.args.found.now) c.get_raw.ensures) c.from_slice.ensures.items
