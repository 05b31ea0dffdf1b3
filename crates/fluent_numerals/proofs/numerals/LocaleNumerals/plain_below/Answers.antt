use Rattle.std.proofs.Common.{arith}
use Rattle.fluent_numerals.specs.Views.{locale_view}
use Rattle.fluent_numerals.proofs.Plain.{ascii_digits, plain_below_power}
use Rattle.fluent_numerals.proofs.numerals.LocaleNumerals.plain_below.Goals as goal

pub returns-in-1 : goal.returns-in-1
returns-in-1 c =
    let ascii = ascii_digits c.args.self.now.forms.now.digits c.ne.result c.ne.ensures c.if-ne.false in
    let ends = c.ends_in_three_digits.ensures c.if-not-ends_in_three_digits.false in
    plain_below_power (locale_view c.args.self.now) 3 (omega arith) (omega arith) ascii ends (omega (arith, c.in-1.is))

pub returns-in-2 : goal.returns-in-2
returns-in-2 c =
    let ascii = ascii_digits c.args.self.now.forms.now.digits c.ne.result c.ne.ensures c.if-ne.false in
    let ends = c.ends_in_three_digits.ensures c.if-not-ends_in_three_digits.false in
    plain_below_power (locale_view c.args.self.now) 4 (omega arith) (omega arith) ascii ends (omega (arith, c.in-2.is))
