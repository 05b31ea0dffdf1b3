use Rattle.std.proofs.Common.{ap, arith}
use Rattle.fluent_number.specs.Digits.{digits_worth}
use Rattle.fluent_number.proofs.Front.{is_front, split_is, no_split}
use Rattle.fluent_number.proofs.reading.split_at_point.Goals as goal

pub returns-in_err-count-clause-none : goal.returns-in_err-count-clause-none
returns-in_err-count-clause-none c =
    rw c.from_residual.ensures (λ digits. let front = ap digits_worth (is_front c.args.text.now digits).front in let large = c.in_err-count.ensures.none in omega (arith, front, large))

pub returns-in_default-clause-none : goal.returns-in_default-clause-none
returns-in_default-clause-none c = λ digits.
    absurd (no_split c.args.text.now c.in_ok-count.count c.in_ok-count.ensures.count c.in_default.ensures.err digits)

pub returns-clause-digits : goal.returns-clause-digits
returns-clause-digits c =
    (split_is c.args.text.now _ _ _ c.in_ok-count.ensures.count c.in_ok-count.ensures.worth c.in-Ok.ensures.ok).digits

pub returns-clause-count : goal.returns-clause-count
returns-clause-count c =
    (split_is c.args.text.now _ _ _ c.in_ok-count.ensures.count c.in_ok-count.ensures.worth c.in-Ok.ensures.ok).count_is

pub returns-clause-whole : goal.returns-clause-whole
returns-clause-whole c =
    (split_is c.args.text.now _ _ _ c.in_ok-count.ensures.count c.in_ok-count.ensures.worth c.in-Ok.ensures.ok).worth_is

pub returns-clause-fraction : goal.returns-clause-fraction
returns-clause-fraction c =
    (split_is c.args.text.now _ _ _ c.in_ok-count.ensures.count c.in_ok-count.ensures.worth c.in-Ok.ensures.ok).fraction_is
