use Rattle.fluent_answers.proofs.Tidying.{joined_sources_keep_notices}
use Rattle.fluent_answers.proofs.laws.joined_sources_keep_notices.Goals as goal

pub returns : goal.returns
returns g c = joined_sources_keep_notices _
