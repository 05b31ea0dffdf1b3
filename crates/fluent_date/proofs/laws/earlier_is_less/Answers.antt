use Rattle.fluent_date.proofs.Order.{dates_ordered, times_ordered}
use Rattle.fluent_date.proofs.laws.earlier_is_less.Goals as goal

pub returns-clause-dates : goal.returns-clause-dates
returns-clause-dates c = dates_ordered

pub returns-clause-times : goal.returns-clause-times
returns-clause-times c = times_ordered
