use Rattle.std.proofs.Common.{sym, arith}
use Rattle.fluent_number.proofs.Worth.{are_leading_more, are_leading_all, are_leading_end, are_leading_large}
use Rattle.fluent_number.proofs.reading.leading_digits.Goals as goal

pub returns-then-not-is_ascii_digit-clause-count : goal.returns-then-not-is_ascii_digit-clause-count
returns-then-not-is_ascii_digit-clause-count c =
    let low = c.loop-count-test.true in
    let other = c.if-not-is_ascii_digit.ensures in
    (are_leading_all c.args.text.now c.loop-count.count c.loop-count.worth (omega (arith, low)) c.loop-count.invariant (λ _. sym other.value)).0

pub returns-then-not-is_ascii_digit-clause-worth : goal.returns-then-not-is_ascii_digit-clause-worth
returns-then-not-is_ascii_digit-clause-worth c =
    let low = c.loop-count-test.true in
    let other = c.if-not-is_ascii_digit.ensures in
    (are_leading_all c.args.text.now c.loop-count.count c.loop-count.worth (omega (arith, low)) c.loop-count.invariant (λ _. sym other.value)).1

pub returns-in_err-worth-clause-none : goal.returns-in_err-worth-clause-none
returns-in_err-worth-clause-none c =
    let digit = c.if-not-is_ascii_digit.ensures in
    rw c.from_residual.ensures (are_leading_large c.args.text.now c.loop-count.count c.loop-count.worth c.loop-count-test.true c.loop-count.invariant (sym digit.value) c.in_err-worth.ensures)

pub loop-count-preserved : goal.loop-count-preserved
loop-count-preserved c =
    let digit = c.if-not-is_ascii_digit.ensures in
    rw c.in_ok-worth.ensures.1 (are_leading_more _ _ _ c.loop-count-test.true c.loop-count.invariant (sym digit.value))

pub returns-clause-count : goal.returns-clause-count
returns-clause-count c =
    (are_leading_end c.args.text.now c.loop-count.count c.loop-count.worth c.loop-count-test.false c.loop-count.auto.count-end c.loop-count.invariant).0

pub returns-clause-worth : goal.returns-clause-worth
returns-clause-worth c =
    (are_leading_end c.args.text.now c.loop-count.count c.loop-count.worth c.loop-count-test.false c.loop-count.auto.count-end c.loop-count.invariant).1
