use Rattle.fluent_tidy_laws.proofs.TidiedSources.{tidied_sources_keep_lists}
use Rattle.fluent_tidy_laws.proofs.laws.tidied_sources_keep_lists.Goals as goal

pub returns : goal.returns
returns c = tidied_sources_keep_lists
