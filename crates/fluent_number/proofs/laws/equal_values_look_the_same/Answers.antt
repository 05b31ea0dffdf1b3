use Rattle.fluent_number.proofs.Equal.{options_decide, numbers_decide}
use Rattle.fluent_number.proofs.laws.equal_values_look_the_same.Goals as goal

pub returns-clause-options : goal.returns-clause-options
returns-clause-options c = λ x y. options_decide x y

pub returns-clause-numbers : goal.returns-clause-numbers
returns-clause-numbers c = λ x y. numbers_decide x y
