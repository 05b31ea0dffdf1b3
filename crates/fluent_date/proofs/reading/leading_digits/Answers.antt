use Rattle.std.proofs.Common.{◌≡◌, ◌<◌, ◌+◌, ◌*◌, ◌^◌, subst, sym, arith, rules}
use Rattle.std.specs.Char.{is_ascii_digit}
use Rattle.std.specs.List.{prefix_len}
use Rattle.fluent_number.proofs.Worth.{short_fits, are_short_leading_more, are_leading_all, are_leading_end}
use Rattle.fluent_date.proofs.reading.leading_digits.Goals as goal

pub returns-then-not-is_ascii_digit-clause-count : goal.returns-then-not-is_ascii_digit-clause-count
returns-then-not-is_ascii_digit-clause-count c =
    let low = c.loop-count-test.true in
    let other = c.if-not-is_ascii_digit.ensures in
    (are_leading_all c.args.text.now c.loop-count.count c.loop-count.worth (omega (arith, low)) c.loop-count.invariant.leading (λ _. sym other.value)).0

pub returns-then-not-is_ascii_digit-clause-worth : goal.returns-then-not-is_ascii_digit-clause-worth
returns-then-not-is_ascii_digit-clause-worth c =
    let low = c.loop-count-test.true in
    let other = c.if-not-is_ascii_digit.ensures in
    (are_leading_all c.args.text.now c.loop-count.count c.loop-count.worth (omega (arith, low)) c.loop-count.invariant.leading (λ _. sym other.value)).1

pub returns-then-not-is_ascii_digit-clause-small : goal.returns-then-not-is_ascii_digit-clause-small
returns-then-not-is_ascii_digit-clause-small c =
    let low = c.loop-count-test.true in
    let other = c.if-not-is_ascii_digit.ensures in
    let count = (are_leading_all c.args.text.now c.loop-count.count c.loop-count.worth (omega (arith, low)) c.loop-count.invariant.leading (λ _. sym other.value)).0 in
    subst (λ k. c.loop-count.worth < 10 ^ k) count c.loop-count.invariant.small

pub overflow_mul-worth : goal.overflow_mul-worth
overflow_mul-worth c =
    let fits = short_fits c.loop-count.count c.loop-count.worth (omega (arith, c.loop-count-test.true, c.requires)) c.loop-count.invariant.small in
    let small : c.loop-count.worth * 10 < 2 ^ 64 = omega (arith, fits) in
    search (rules, small)

pub overflow_add-worth : goal.overflow_add-worth
overflow_add-worth c =
    let fits = short_fits c.loop-count.count c.loop-count.worth (omega (arith, c.loop-count-test.true, c.requires)) c.loop-count.invariant.small in
    let digit = c.if-not-is_ascii_digit.ensures in
    let small : c.loop-count.worth * 10 + c.from.result < 2 ^ 64 = omega (arith, fits, digit.cases, c.from.ensures) in
    search (rules, small)

pub loop-count-preserved : goal.loop-count-preserved
loop-count-preserved c =
    let digit = c.if-not-is_ascii_digit.ensures in
    rw c.from.ensures (are_short_leading_more _ _ _ c.loop-count-test.true c.loop-count.invariant (sym digit.value) digit.cases.1)

pub returns-clause-count : goal.returns-clause-count
returns-clause-count c =
    (are_leading_end c.args.text.now c.loop-count.count c.loop-count.worth c.loop-count-test.false c.loop-count.auto.count-end c.loop-count.invariant.leading).0

pub returns-clause-worth : goal.returns-clause-worth
returns-clause-worth c =
    (are_leading_end c.args.text.now c.loop-count.count c.loop-count.worth c.loop-count-test.false c.loop-count.auto.count-end c.loop-count.invariant.leading).1

pub returns-clause-small : goal.returns-clause-small
returns-clause-small c =
    let all = (are_leading_end c.args.text.now c.loop-count.count c.loop-count.worth c.loop-count-test.false c.loop-count.auto.count-end c.loop-count.invariant.leading).0 in
    let count : c.loop-count.count ≡ prefix_len is_ascii_digit c.args.text.now = omega (arith, all, c.loop-count-test.false, c.loop-count.auto.count-end) in
    subst (λ k. c.loop-count.worth < 10 ^ k) count c.loop-count.invariant.small
