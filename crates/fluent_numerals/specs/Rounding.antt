-- How many digits are shown, as ECMA-402's SetNumberFormatDigitOptions settles it, and the number that they write.
use Rattle.std.specs.Prelude.{◌≡◌, ℕ, ◌+◌, ◌-◌, ◌*◌, ◌/◌, ◌%◌, ◌^◌, min, max, Bool, ◌||◌, ◌&&◌, not, ◌==◌, if◌then◌else◌, length, decimal, Option, None, is_some, unwrap_or}
use Rattle.fluent_number.specs.Options.{Options}
use Rattle.fluent_numerals.specs.declared.rounding.Parts.{Parts}
use Rattle.fluent_numerals.specs.declared.rounding.Shown.{Shown}

-- a number rounded to a multiple of this power of ten, and halves away from zero
abbrev pub rounded : ℕ → ℕ → ℕ
rounded exponent n = (n + 10 ^ exponent / 2) / 10 ^ exponent * 10 ^ exponent

abbrev pub digit_count : ℕ → ℕ
digit_count n = length (decimal n)

-- Digits before the point: at least one. ECMA-402 takes up to 21, and here a greater count counts as 21.
abbrev pub least_integer_digits : Options → ℕ
least_integer_digits o = min (unwrap_or o.minimum_integer_digits 1) 21

-- The least count of digits after the point that is asked for. Every number that was written with digits there has one, so of a
-- style with a fixed count, as money and percentages have it, it counts only together with a greatest one.
abbrev pub asked_least : ℕ → ℕ → Options → Option ℕ
asked_least usual_least usual_most o =
    if usual_least == usual_most && not (is_some o.maximum_fraction_digits) then None else o.minimum_fraction_digits

-- Digits after the point at most: those asked for, else the usual ones, or more if at least more are asked for. ECMA-402 takes up
-- to 100.
abbrev pub most_fraction_digits : ℕ → ℕ → Options → ℕ
most_fraction_digits usual_least usual_most o =
    let asked = asked_least usual_least usual_most o in min (unwrap_or o.maximum_fraction_digits (max usual_most (unwrap_or asked 0))) 100

-- digits after the point at least: those asked for, else the usual ones, but never more than at most
abbrev pub least_fraction_digits : ℕ → ℕ → Options → ℕ
least_fraction_digits usual_least usual_most o =
    min (unwrap_or (asked_least usual_least usual_most o) usual_least) (most_fraction_digits usual_least usual_most o)

-- of units, of which 10 ^ places are one
abbrev pub by_fraction : ℕ → ℕ → ℕ → Options → ℕ → Shown
by_fraction places usual_least usual_most o units =
    let most = most_fraction_digits usual_least usual_most o in
    record { units = rounded (places - most) units; least = least_fraction_digits usual_least usual_most o }

-- Significant digits: from 1 to 21. ECMA-402 takes no other counts.
abbrev pub most_significant_digits : Options → ℕ
most_significant_digits o = max 1 (min (unwrap_or o.maximum_significant_digits 21) 21)

abbrev pub least_significant_digits : Options → ℕ
least_significant_digits o = min (unwrap_or o.minimum_significant_digits 1) (most_significant_digits o)

-- how many digits of the units a number has that shows its first significant digit: those of zero begin before the point
abbrev pub size : ℕ → ℕ → ℕ
size places units = if units == 0 then places + 1 else digit_count units

abbrev pub by_significant : ℕ → Options → ℕ → Shown
by_significant places o units =
    let left = rounded (digit_count units - most_significant_digits o) units in
    record { units = left; least = least_significant_digits o + places - size places left }

-- whether significant digits are asked for
abbrev pub has_significant_digits : Options → Bool
has_significant_digits o = is_some o.minimum_significant_digits || is_some o.maximum_significant_digits

-- the units that are left, and how many digits are shown after the point at least; significant digits go first
abbrev pub shown_of : ℕ → ℕ → ℕ → Options → ℕ → Shown
shown_of places usual_least usual_most o units =
    if has_significant_digits o then by_significant places o units else by_fraction places usual_least usual_most o units

-- these parts are what is shown, before the point and after it
abbrev pub ArePartsOf : ℕ → Shown → Parts → Type 0
ArePartsOf places s parts = (parts.whole ≡ s.units / 10 ^ places) × (parts.fraction ≡ s.units % 10 ^ places) × (parts.least ≡ s.least)

-- the parts of what is shown, of units of which 10 ^ places are one
abbrev pub AreShownParts : ℕ → ℕ → ℕ → Options → ℕ → Parts → Type 0
AreShownParts places usual_least usual_most o units = ArePartsOf places (shown_of places usual_least usual_most o units)

-- the same by the digits after the point, of units of which 10 ^ 18 are one
abbrev pub ArePartsByFraction : ℕ → ℕ → Options → ℕ → Parts → Type 0
ArePartsByFraction usual_least usual_most o units = ArePartsOf 18 (by_fraction 18 usual_least usual_most o units)
