use Rattle.std.proofs.Common.{refl}
use Rattle.fluent_number.proofs.LastDigits.{operands_made}
use Rattle.fluent_number.specs.Number.{number_of}
use Rattle.fluent_number.proofs.plural.PluralOperandsFromRefFluentNumber.from.Goals as goal

pub returns : goal.returns
returns c =
    let digits = c.significant_digits-w.ensures in
    let significant = rw c.fraction-fraction.ensures.value at digits.digits in
    rw (c.abs.ensures, c.fraction-fraction.ensures.value, c.power_of_ten.ensures.value)
    (operands_made (number_of c.args.number.now) _ _ _ _ _ c.whole.ensures significant digits.below digits.count c.shown_digits-v.ensures refl)
