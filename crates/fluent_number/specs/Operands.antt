-- The operands of plural rules.
use Rattle.std.specs.Prelude.{ℕ, pos, unsigned_abs, min, max, length, take, unwrap_or}
use Rattle.fluent_number.specs.Decimal.{whole_of, fraction_of}
use Rattle.fluent_number.specs.Digits.{digits_worth, last_digits}
use Rattle.fluent_number.specs.Number.{Number}
use Rattle.fluent_number.specs.Text.{fraction_text}
use Rattle.fluent_number.specs.declared.plural.PluralOperands.{PluralOperands}

-- w: how many digits are after the point, without zeros at the end
abbrev pub digits_without_zeros : Number → ℕ
digits_without_zeros number = length (fraction_text number.value)

-- v: the same with the zeros that the options ask for, at most 18
abbrev pub digits_with_zeros : Number → ℕ
digits_with_zeros number =
    max (digits_without_zeros number) (min (unwrap_or number.options.minimum_fraction_digits 0) 18)

-- the number that the first k digits after the point write
abbrev pub first_digits_worth : ℕ → Number → ℕ
first_digits_worth k number = digits_worth (take k (last_digits 18 (fraction_of number.value)))

unfoldable pub operands_of : Number → PluralOperands
operands_of number = record {
  n = pos (unsigned_abs number.value);
  i = whole_of number.value;
  v = digits_with_zeros number;
  w = digits_without_zeros number;
  f = first_digits_worth (digits_with_zeros number) number;
  t = first_digits_worth (digits_without_zeros number) number;
}
