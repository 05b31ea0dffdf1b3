use Rattle.fluent_meaning.proofs.Bounded.{enters-within-bound}
use Rattle.fluent_meaning.proofs.ToldOnce.{opens-within-budget}
use Rattle.fluent_meaning.proofs.laws.work_is_bounded.Goals as goal

pub returns-clause-entered : goal.returns-clause-entered
returns-clause-entered g c = enters-within-bound

pub returns-clause-opened : goal.returns-clause-opened
returns-clause-opened g c = opens-within-budget
