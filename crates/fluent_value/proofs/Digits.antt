-- The text of a number that is digits alone.
use Rattle.std.proofs.Common.{◌≡◌, ◌∙◌, ap, refl, ℕ, ◌^◌, ℤ, pos, false, decimal, Option, None, append-nil, arith}
use Rattle.std.proofs.Math.IntN.{pos-*ℤ-pos}
use Rattle.std.proofs.Math.Nat.{mul-mod_left, mul-div_left}
use Rattle.fluent_number.specs.Conversion.{from_integer}
use Rattle.fluent_number.specs.Decimal.{is_below_zero, whole_of, fraction_of}
use Rattle.fluent_number.specs.Digits.{last_digits}
use Rattle.fluent_number.specs.Number.{number_from_integer}
use Rattle.fluent_number.specs.Text.{decimal_text, number_text}

pub bare-text : (value : ℤ) (least : Option ℕ) → is_below_zero value ≡ false → fraction_of value ≡ 0 → least ≡ None → decimal_text value least ≡ decimal (whole_of value)
unfolding last_digits
bare-text value least positive whole none = rw (positive, whole, none) (append-nil (decimal (whole_of value)))

-- the parts of a whole number
pub integer-positive : (n : ℕ) → is_below_zero (from_integer (pos n)) ≡ false
integer-positive n = ap is_below_zero (pos-*ℤ-pos n (10 ^ 18))

pub integer-fraction : (n : ℕ) → fraction_of (from_integer (pos n)) ≡ 0
integer-fraction n = ap fraction_of (pos-*ℤ-pos n (10 ^ 18)) ∙ mul-mod_left n (10 ^ 18)

pub integer-whole : (n : ℕ) → whole_of (from_integer (pos n)) ≡ n
integer-whole n = ap whole_of (pos-*ℤ-pos n (10 ^ 18)) ∙ mul-div_left n (omega arith)

-- a whole number without options is its digits
pub integer-text : (n : ℕ) → number_text (number_from_integer (pos n)) ≡ decimal n
unfolding number_text
integer-text n = bare-text (from_integer (pos n)) None (integer-positive n) (integer-fraction n) refl ∙ ap decimal (integer-whole n)
