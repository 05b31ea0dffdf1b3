use Rattle.std.proofs.Common.{◌≡◌, ◌∙◌, ap, sym, ℤ, false, decimal, None, arith, rules}
use Rattle.fluent_number.specs.Decimal.{is_below_zero, fraction_of}
use Rattle.fluent_number.specs.Text.{number_text}
use Rattle.fluent_value.proofs.Digits.{bare-text}
use Rattle.fluent_value.proofs.shown.digits_alone.Goals as goal

pub returns : goal.returns
unfolding number_text
returns c =
    let value = c.args.number.now.value in
    let positive : is_below_zero value ≡ false = search rules in
    let whole : fraction_of value ≡ 0 = omega arith in
    let none : c.args.number.now.options.minimum_fraction_digits ≡ None = search rules in
    bare-text value _ positive whole none ∙ sym (ap decimal c.whole.ensures)
