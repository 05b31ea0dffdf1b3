use Rattle.fluent_answers.proofs.Tidying.{tidied_sources_keep_answers}
use Rattle.fluent_answers.proofs.laws.tidied_sources_keep_answers.Goals as goal

pub returns : goal.returns
returns g c = tidied_sources_keep_answers _ _
