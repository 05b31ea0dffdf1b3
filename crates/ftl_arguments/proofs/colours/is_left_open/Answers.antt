use Rattle.std.proofs.Common.{◌∙◌, codes, refl}
use Rattle.clap.specs.Words.{found_of}
use Rattle.ftl_arguments.proofs.Found.{given}
use Rattle.ftl_arguments.proofs.colours.is_left_open.Goals as goal

pub returns : goal.returns
returns c = c.eq.ensures ∙ given _ (λ a b. refl) c.get_str.result _ (codes "auto") refl (found_of c.args.found.now) (codes "color") c.get_str.ensures
