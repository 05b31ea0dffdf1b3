-- The definitions at a few values, by computing.
use Rattle.std.proofs.Common.{◌≡◌, refl, codes, Some, None, Option}
use Rattle.std.specs.Fmt.{digits}
use Rattle.std.specs.Prelude.{option_map, ◌*◌, ◌^◌, pos, neg_ℤ}
use Rattle.fluent_number.specs.Conversion.{from_integer, signed_of, unsigned_of}
use Rattle.fluent_number.specs.Digits.{Text, last_digits}
use Rattle.fluent_number.specs.Operands.{operands_of}
use Rattle.fluent_number.specs.Plurals.{english}
use Rattle.fluent_number.specs.declared.plural.PluralOperands.{PluralOperands}
use Rattle.fluent_number.specs.declared.plural.PluralCategory.{PluralCategory}
use Rattle.fluent_number.specs.declared.plural.PluralCategory.TheVariants.{ONE, TWO, OTHER}
use Rattle.fluent_number.specs.declared.plural.PluralRuleType.TheVariants.{CARDINAL, ORDINAL}
use Rattle.fluent_number.specs.Reading.{read_number}
use Rattle.fluent_number.specs.Text.{number_text}

abbrev text_read : Text → Option Text
text_read text = option_map number_text (read_number text)

three : text_read (codes "3.141569") ≡ Some (codes "3.141569")
unfolding read_number number_text digits last_digits
three = refl

five_point : text_read (codes "5.") ≡ Some (codes "5.")
unfolding read_number number_text digits last_digits
five_point = refl

point_five : text_read (codes ".5") ≡ Some (codes "0.5")
unfolding read_number number_text digits last_digits
point_five = refl

plus_seven : text_read (codes "+7") ≡ Some (codes "7")
unfolding read_number number_text digits last_digits
plus_seven = refl

agent : text_read (codes "007") ≡ Some (codes "7")
unfolding read_number number_text digits last_digits
agent = refl

minus_zero : text_read (codes "-0") ≡ Some (codes "0")
unfolding read_number number_text digits last_digits
minus_zero = refl

minus_half : text_read (codes "-0.50") ≡ Some (codes "-0.50")
unfolding read_number number_text digits last_digits
minus_half = refl

no_exponent : read_number (codes "1e3") ≡ None
unfolding read_number
no_exponent = refl

too_large : read_number (codes "18446744073709551616") ≡ None
unfolding read_number
too_large = refl

greatest : text_read (codes "18446744073709551615.999999999999999999") ≡ Some (codes "18446744073709551615.999999999999999999")
unfolding read_number number_text digits last_digits
greatest = refl

too_long : read_number (codes "0.1234567890123456789") ≡ None
unfolding read_number
too_long = refl

empty : read_number (codes "") ≡ None
unfolding read_number
empty = refl

point : read_number (codes ".") ≡ None
unfolding read_number
point = refl

two_signs : read_number (codes "+-5") ≡ None
unfolding read_number
two_signs = refl

two_points : read_number (codes "1.2.3") ≡ None
unfolding read_number
two_points = refl

sign_behind : read_number (codes "1.+5") ≡ None
unfolding read_number
sign_behind = refl

-- the operands of a text, and its English categories
abbrev operands_read : Text → Option PluralOperands
operands_read text = option_map operands_of (read_number text)

abbrev categories_read : Text → Option (PluralCategory × PluralCategory)
categories_read text = option_map (λ o. (english CARDINAL o, english ORDINAL o)) (operands_read text)

operands_of_minus_half : operands_read (codes "-0.50") ≡ Some (record { n = pos (5 * 10 ^ 17); i = 0; v = 2; w = 1; f = 50; t = 5 })
unfolding read_number operands_of last_digits
operands_of_minus_half = refl

operands_of_1_230 : operands_read (codes "1.230") ≡ Some (record { n = pos (123 * 10 ^ 16); i = 1; v = 3; w = 2; f = 230; t = 23 })
unfolding read_number operands_of last_digits
operands_of_1_230 = refl

categories_of_1_00 : categories_read (codes "1.00") ≡ Some (OTHER, ONE)
unfolding read_number operands_of last_digits
categories_of_1_00 = refl

categories_of_22 : categories_read (codes "22") ≡ Some (OTHER, TWO)
unfolding read_number operands_of last_digits
categories_of_22 = refl

categories_of_113 : categories_read (codes "113") ≡ Some (OTHER, OTHER)
unfolding read_number operands_of last_digits
categories_of_113 = refl

categories_of_1_5 : categories_read (codes "1.5") ≡ Some (OTHER, OTHER)
unfolding read_number operands_of last_digits
categories_of_1_5 = refl

-- -3.7 as an `i8`, 300 and -1 as a `u8`
minus_three : signed_of 8 (neg_ℤ (pos (37 * 10 ^ 17))) ≡ neg_ℤ (pos 3)
minus_three = refl

greatest_byte : unsigned_of 8 (from_integer (pos 300)) ≡ 255
greatest_byte = refl

least_byte : unsigned_of 8 (from_integer (neg_ℤ (pos 1))) ≡ 0
least_byte = refl

least_signed_byte : signed_of 8 (from_integer (neg_ℤ (pos 129))) ≡ neg_ℤ (pos 128)
least_signed_byte = refl
