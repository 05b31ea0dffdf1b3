use Rattle.std.proofs.Common.{◌∙◌, codes, refl}
use Rattle.clap.specs.Words.{found_of}
use Rattle.ftl_arguments.proofs.Found.{given}
use Rattle.ftl_arguments.proofs.reading.is_given.Goals as goal

pub returns : goal.returns
returns c = c.eq.ensures ∙ given _ (λ a b. refl) c.get_str.result _ (codes "true") refl (found_of c.args.found.now) c.args.name.now c.get_str.ensures
