use Rattle.fluent_meaning.proofs.Stays.{first_stays, last_stays, ids_ascend}
use Rattle.fluent_meaning.proofs.laws.one_entry_stays.Goals as goal

pub returns-clause-first : goal.returns-clause-first
returns-clause-first g c = first_stays

pub returns-clause-last : goal.returns-clause-last
returns-clause-last g c = last_stays

pub returns-clause-ascending : goal.returns-clause-ascending
returns-clause-ascending g c = ids_ascend
