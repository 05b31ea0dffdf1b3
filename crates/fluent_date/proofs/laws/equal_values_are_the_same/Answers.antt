use Rattle.std.proofs.Common.{refl}
use Rattle.fluent_date.proofs.Equal.{dates_decide, offsets_decide, options_decide, times_decide, values_decide}
use Rattle.fluent_date.proofs.laws.equal_values_are_the_same.Goals as goal

pub returns-clause-dates : goal.returns-clause-dates
returns-clause-dates c = λ x y. dates_decide x y

pub returns-clause-times : goal.returns-clause-times
returns-clause-times c = λ x y. times_decide x y

pub returns-clause-offsets : goal.returns-clause-offsets
returns-clause-offsets c = λ x y. offsets_decide x y

pub returns-clause-options : goal.returns-clause-options
returns-clause-options c = λ x y. options_decide _ (record { numbers = λ a b. refl; texts = λ a b. refl; number_text = λ a b. refl; text_number = λ a b. refl }) x y

pub returns-clause-values : goal.returns-clause-values
returns-clause-values c = λ x y. values_decide _ (record { numbers = λ a b. refl; texts = λ a b. refl; number_text = λ a b. refl; text_number = λ a b. refl }) x y
