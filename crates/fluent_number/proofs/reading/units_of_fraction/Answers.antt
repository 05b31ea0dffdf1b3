use Rattle.std.proofs.Common.{◌-◌, ◌*◌, ◌^◌, ap, ◌∙◌, arith, rules}
use Rattle.fluent_number.specs.Digits.{digits_worth}
use Rattle.fluent_number.proofs.Front.{all_leading, not_all_leading}
use Rattle.fluent_number.proofs.Numerals.{fraction_lt}
use Rattle.fluent_number.proofs.reading.units_of_fraction.Goals as goal

pub returns-then-count-digits : goal.returns-then-count-digits
returns-then-count-digits c = λ h.
    let count = c.short_leading_digits-count.ensures.count in
    not_all_leading c.args.digits.now (omega (arith, count, c.if-count-digits.true)) h.0

pub overflow_mul-result : goal.overflow_mul-result
overflow_mul-result c =
    let found = c.short_leading_digits-count.ensures in
    let all = all_leading c.args.digits.now (omega (arith, found.count, c.if-count-digits.false)) in
    let power = c.power_of_ten.ensures.value ∙ ap (λ k. 10 ^ (18 - k)) (found.count ∙ all.count) in
    let small = fraction_lt c.args.digits.now all.digits (omega arith) in
    rw (found.worth ∙ ap digits_worth all.front, power) (search (rules, small))

pub returns : goal.returns
returns c =
    let found = c.short_leading_digits-count.ensures in
    let all = all_leading c.args.digits.now (omega (arith, found.count, c.if-count-digits.false)) in
    let power = c.power_of_ten.ensures.value ∙ ap (λ k. 10 ^ (18 - k)) (found.count ∙ all.count) in
    ((all.digits, omega arith), ap (λ w. w * c.power_of_ten.result) (found.worth ∙ ap digits_worth all.front) ∙ ap (λ p. digits_worth c.args.digits.now * p) power)
