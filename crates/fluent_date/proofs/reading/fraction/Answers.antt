use Rattle.std.proofs.Common.{◌≡◌, ◌∙◌, ap, ap₂, arith, length, min, Some, sym, take}
use Rattle.std.proofs.lemmas.List.{take_min, take_rest}
use Rattle.std.specs.Char.{is_ascii_digit}
use Rattle.std.specs.List.{prefix_len}
use Rattle.fluent_number.specs.Digits.{digits_worth}
use Rattle.fluent_date.proofs.Fractions.{fraction_some}
use Rattle.fluent_date.proofs.reading.fraction.Goals as goal

pub returns : goal.returns
returns c =
    let text = c.args.text.now in
    let count = c.leading_digits-count.result.0 in
    let ten : c.min.result ≡ min 10 (length text) = omega (arith, c.min.ensures) in
    let front : take c.min.result text ≡ take 10 text = ap (λ k. take k text) ten ∙ take_min 10 text in
    let is : count ≡ prefix_len is_ascii_digit (take 10 text) = c.leading_digits-count.ensures.count ∙ ap (prefix_len is_ascii_digit) front in
    let worth : c.leading_digits-count.result.1 ≡ digits_worth (take count (take 10 text)) =
    c.leading_digits-count.ensures.worth ∙ ap (λ t. digits_worth (take (prefix_len is_ascii_digit t) t)) front
    ∙ ap (λ k. digits_worth (take k (take 10 text))) (sym is) in
    ap₂ (λ n rest. Some (n, rest)) c.nanoseconds.ensures (take_rest text count)
    ∙ fraction_some text count c.leading_digits-count.result.1 is worth c.if-count-lt1.false c.if-count-gt9.false
