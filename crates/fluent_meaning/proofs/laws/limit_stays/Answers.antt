use Rattle.fluent_meaning.proofs.UnlimitedOpen.{open-is-unlimited, unlimited-is-one}
use Rattle.fluent_meaning.proofs.UnlimitedStays.{limit-stays}
use Rattle.fluent_meaning.proofs.laws.limit_stays.Goals as goal

pub returns-clause-stays : goal.returns-clause-stays
returns-clause-stays g c = limit-stays

pub returns-clause-open : goal.returns-clause-open
returns-clause-open g c = open-is-unlimited

pub returns-clause-one : goal.returns-clause-one
returns-clause-one g c = unlimited-is-one
