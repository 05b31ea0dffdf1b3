use Rattle.fluent_meaning.proofs.InTurn.{with_ids-++, notices-++}
use Rattle.fluent_meaning.proofs.laws.ids_in_turn.Goals as goal

pub returns-clause-ids : goal.returns-clause-ids
returns-clause-ids g c = with_ids-++

pub returns-clause-notices : goal.returns-clause-notices
returns-clause-notices g c = notices-++
