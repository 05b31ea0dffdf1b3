use Rattle.fluent_answers.proofs.InTurn.{runtime_has_the_same_ids, ids_go_on, notices_go_on}
use Rattle.fluent_answers.proofs.laws.sources_in_turn.Goals as goal

pub returns-clause-same : goal.returns-clause-same
returns-clause-same g c = runtime_has_the_same_ids _

pub returns-clause-ids : goal.returns-clause-ids
returns-clause-ids g c = ids_go_on _

pub returns-clause-notices : goal.returns-clause-notices
returns-clause-notices g c = notices_go_on _
