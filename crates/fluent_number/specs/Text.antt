-- The text of a number.
use Rattle.std.specs.Prelude.{ℕ, ◌-◌, ℤ, [], ◌∷◌, ◌++◌, length, replicate, Option, is_none, unwrap_or, ◌&&◌, ◌==◌, decimal, if◌then◌else◌}
use Rattle.fluent_number.specs.Decimal.{is_below_zero, whole_of, fraction_of}
use Rattle.fluent_number.specs.Digits.{Text, last_digits, without_end_zeros}
use Rattle.fluent_number.specs.Number.{Number}

-- the digits of a decimal after the point, without zeros at the end
abbrev pub fraction_text : ℤ → Text
fraction_text value = without_end_zeros (last_digits 18 (fraction_of value))

-- zeros after digits, so that there are at least this many
abbrev pub filled_up : ℕ → Text → Text
filled_up least digits = digits ++ replicate (least - length digits) 48

-- A point and the digits after it. Without a least count a point is written only before digits.
abbrev pub point_and : Option ℕ → Text → Text
point_and least digits =
    if is_none least && length digits == 0 then [] else 46 ∷ filled_up (unwrap_or least 0) digits

-- what stands before the whole part
abbrev pub minus_of : ℤ → Text
minus_of value = if is_below_zero value then 45 ∷ [] else []

-- the text of a decimal, with at least this many digits after the point if a count is given
abbrev pub decimal_text : ℤ → Option ℕ → Text
decimal_text value least = minus_of value ++ (decimal (whole_of value) ++ point_and least (fraction_text value))

-- the text of a number
unfoldable pub number_text : Number → Text
number_text number =
    minus_of number.value
    ++ (decimal (whole_of number.value) ++ point_and number.options.minimum_fraction_digits (fraction_text number.value))
