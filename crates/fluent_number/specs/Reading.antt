-- Which number a text is, if it is one.
use Rattle.std.specs.Prelude.{◌≡◌, ◌≤◌, true, ℕ, ℤ, ◌+◌, ◌-◌, ◌*◌, ◌^◌, Bool, ◌&&◌, ◌||◌, ◌==◌, nat_lt, nat_le, if◌then◌else◌, length, drop, take, position, Option, Some, None, option_map, unwrap_or, slice_index, [], ◌++◌}
use Rattle.std.specs.Char.{is_ascii_digit}
use Rattle.std.specs.List.{list_all}
use Rattle.fluent_number.specs.Decimal.{signed}
use Rattle.fluent_number.specs.Digits.{Text, digits_worth}
use Rattle.fluent_number.specs.Number.{Number}
use Rattle.fluent_number.specs.Options.{default_options}

-- an unsigned text: what stands before the point and, if there is a point, what is after it
pub record Numeral : Type 0 where
  pub whole : Text
  pub fraction : Option Text

abbrev pub is_point : ℕ → Bool
is_point c = c == 46

-- a text parted at a place
abbrev pub parted : Text → Option ℕ → Numeral
parted text None = record { whole = text; fraction = None }
parted text (Some place) = record { whole = take place text; fraction = Some (drop (place + 1) text) }

-- a text parted at its first point
abbrev pub numeral_of : Text → Numeral
numeral_of text = parted text (position is_point text)

-- Digits before and after a point are a decimal: there is at least one, at most 18 are after the point, and the whole
-- part is below 2 ^ 64.
abbrev pub are_decimal : Text → Text → Bool
are_decimal whole behind =
    list_all is_ascii_digit (whole ++ behind)
    && (nat_lt 0 (length (whole ++ behind)) && (nat_le (length behind) 18 && nat_lt (digits_worth whole) (2 ^ 64)))

-- how many units they are: all the digits as one number, of which this many are after the point
abbrev pub units_of : Text → Text → ℕ
units_of whole behind = digits_worth (whole ++ behind) * 10 ^ (18 - length behind)

-- digits before a point whose number doesn't fit
abbrev pub IsTooGreatAsDigits : Text → Type 0
IsTooGreatAsDigits whole = list_all is_ascii_digit whole ≡ true → 2 ^ 64 ≤ digits_worth whole

-- digits that may follow a point
abbrev pub IsFraction : Text → Type 0
IsFraction behind = (list_all is_ascii_digit behind ≡ true) × (length behind ≤ 18)

-- how many units they are
abbrev pub fraction_units : Text → ℕ
fraction_units behind = digits_worth behind * 10 ^ (18 - length behind)

-- the decimal that they are with that sign, if they are one
abbrev pub read_decimal : Bool → Text → Text → Option ℤ
read_decimal negative whole behind =
    if are_decimal whole behind then Some (signed negative (units_of whole behind)) else None

-- a decimal as a number that shows as many digits after the point as were written there
abbrev pub number_read : Option Text → ℤ → Number
number_read fraction value = record {
  value = value;
  options = record default_options { minimum_fraction_digits = option_map length fraction };
}

abbrev pub begins_with_minus : Text → Bool
begins_with_minus text = slice_index text 0 == 45

abbrev pub begins_with_sign : Text → Bool
begins_with_sign text = begins_with_minus text || slice_index text 0 == 43

-- a text without its sign, if it begins with one
abbrev pub without_sign : Text → Text
without_sign text = if begins_with_sign text then drop 1 text else text

-- the number that a text is
unfoldable pub read_number : Text → Option Number
read_number text =
    let numeral = numeral_of (without_sign text) in
    option_map (number_read numeral.fraction) (read_decimal (begins_with_minus text) numeral.whole (unwrap_or numeral.fraction []))
