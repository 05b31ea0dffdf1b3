use Rattle.fluent_answers.proofs.Tidying.{lists_decide}
use Rattle.fluent_answers.proofs.laws.lists_decide.Goals as goal

pub returns : goal.returns
returns g c = lists_decide _ _
