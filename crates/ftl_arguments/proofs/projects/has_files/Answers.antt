use Rattle.std.proofs.Common.{◌∙◌, ap, codes, refl}
use Rattle.clap.specs.Words.{found_of}
use Rattle.ftl_arguments.specs.Linting.{is_any}
use Rattle.ftl_arguments.specs.Meaning.{texts}
use Rattle.ftl_arguments.proofs.Found.{all}
use Rattle.ftl_arguments.proofs.projects.has_files.Goals as goal

pub returns : goal.returns
returns c =
    c.is_any.ensures ∙ ap (λ s. is_any (texts s.now)) c.unwrap_or.ensures
    ∙ ap is_any (all (codes "only") c.get_raw.result _ refl (found_of c.args.found.now) c.get_raw.ensures)
