use Rattle.std.proofs.Common.{◌≡◌, ◌<◌, ◌+◌, Some, [], length, unwrap_or, sym, ap, ◌∙◌, arith}
use Rattle.std.proofs.lemmas.Bool.{eqb-true, false≢true}
use Rattle.std.proofs.lemmas.Bool.Decides.{nat_tests}
use Rattle.fluent_number.specs.Reading.{numeral_of}
use Rattle.fluent_number.proofs.Numerals.{read_fails, read_succeeds, units_lt, are_found, value_found, number_made}
use Rattle.fluent_number.proofs.reading.read.Goals as goal
use Rattle.fluent_number.proofs.reading.read.Goals.{else-numeral-eq0-via-then-numeral-eq0+else-is_empty, else-numeral-eq0-via-else-numeral-eq0}

pub returns-in_err-numeral : goal.returns-in_err-numeral
returns-in_err-numeral c =
    rw (c.from_residual.ensures, ← c.as_bytes.ensures.value)
    (read_fails _ _ c.split_sign-negative.ensures.rest (λ are.
    let large = c.in_err-numeral.ensures.none are.whole_digits in omega (arith, large, are.fits)))

pub returns-then-is_empty : goal.returns-then-is_empty
returns-then-is_empty c =
    let numeral = c.in_ok-numeral.ensures in
    let behind = ap length (c.digits_behind-behind.ensures ∙ ap (λ f. unwrap_or f []) numeral.fraction) in
    let empty = eqb-true (length c.digits_behind-behind.result.now) 0 (sym c.if-is_empty.ensures) in
    rw (← c.as_bytes.ensures.value)
    (read_fails _ _ c.split_sign-negative.ensures.rest (λ are. omega (arith, are.some, numeral.count, c.if-numeral-eq0.true, behind, empty)))

pub returns-in_err-units_of_fraction : goal.returns-in_err-units_of_fraction
returns-in_err-units_of_fraction c =
    let numeral = c.in_ok-numeral.ensures in
    let behind = c.digits_behind-behind.ensures ∙ ap (λ f. unwrap_or f []) numeral.fraction in
    let fails = rw behind at c.in_err-units_of_fraction.ensures in
    rw (c.from_residual-in_err-units_of_fraction.ensures, ← c.as_bytes.ensures.value)
    (read_fails _ _ c.split_sign-negative.ensures.rest (λ are. fails (are.digits_behind, are.short)))

pub returns-in_err-value : goal.returns-in_err-value
returns-in_err-value c =
    let units = c.in_ok-units_of_fraction.ensures in
    absurd (false≢true (c.in_err-value.ensures.some.1 (units_lt c.digits_behind-behind.result.now c.in_ok-units_of_fraction.field-0 units.0 units.1)))

pub returns : goal.returns
returns c =
    let numeral = c.in_ok-numeral.ensures in
    let units = c.in_ok-units_of_fraction.ensures in
    let unsigned = c.split_sign-negative.result.1.now in
    let behind : c.digits_behind-behind.result.now ≡ unwrap_or (numeral_of unsigned).fraction [] = c.digits_behind-behind.ensures ∙ ap (λ f. unwrap_or f []) numeral.fraction in
    let some : 0 < c.in_ok-numeral.numeral.count + length c.digits_behind-behind.result.now = elim c.else-numeral-eq0.branch [ else-numeral-eq0-via-then-numeral-eq0+else-is_empty w ↦ grind (arith, nat_tests) | else-numeral-eq0-via-else-numeral-eq0 w ↦ omega (arith, w.if-numeral-eq0.false) ] in
    let are = are_found unsigned c.digits_behind-behind.result.now c.in_ok-numeral.numeral.count c.in_ok-numeral.numeral.whole numeral.digits numeral.count numeral.whole numeral.small behind units.0 some in
    let value = value_found unsigned c.digits_behind-behind.result.now c.split_sign-negative.result.0 c.in_ok-numeral.numeral.whole c.in_ok-units_of_fraction.field-0 c.in_ok-value.value numeral.whole behind units.1 c.in_ok-value.ensures.value in
    let shown = rw (c.count_behind.ensures, numeral.fraction) at c.options_showing.ensures in
    rw (← c.as_bytes.ensures.value)
    (ap (λ n. Some n) (number_made _ _ _ _ c.new.ensures.value c.new.ensures.options shown)
    ∙ read_succeeds _ _ _ _ c.split_sign-negative.ensures.rest c.split_sign-negative.ensures.negative are value)
