-- How a number is spelled: which texts are a number, said without taking a text apart.
use Rattle.std.specs.Prelude.{◌≡◌, ◌+◌, ◌^◌, ◌<◌, ◌≤◌, Bool, true, false, [], ◌∷◌, ◌++◌, length, Option, Some, None, unwrap_or}
use Rattle.std.specs.Char.{is_ascii_digit}
use Rattle.std.specs.List.{list_all}
use Rattle.fluent_number.specs.Decimal.{signed}
use Rattle.fluent_number.specs.Digits.{Text, digits_worth}
use Rattle.fluent_number.specs.Number.{Number}
use Rattle.fluent_number.specs.Reading.{units_of, number_read}

pub data Sign : Type 0 where
  no_sign : Sign
  plus : Sign
  minus : Sign

abbrev pub sign_text : Sign → Text
sign_text no_sign = []
sign_text plus = 43 ∷ []
sign_text minus = 45 ∷ []

abbrev pub is_minus : Sign → Bool
is_minus no_sign = false
is_minus plus = false
is_minus minus = true

-- a point and what is after it, or nothing
abbrev pub point_text : Option Text → Text
point_text None = []
point_text (Some behind) = 46 ∷ behind

abbrev pub spelled : Sign → Text → Option Text → Text
spelled sign whole fraction = sign_text sign ++ (whole ++ point_text fraction)

-- The text is a sign, digits and perhaps a point and digits, as many and as large as they may be; and the number is what
-- they write, with as many digits shown after the point.
pub record Spells (text : Text) (number : Number) : Type 0 where
  pub sign : Sign
  pub whole : Text
  pub fraction : Option Text
  pub text_is : text ≡ spelled sign whole fraction
  pub whole_digits : list_all is_ascii_digit whole ≡ true
  pub fraction_digits : list_all is_ascii_digit (unwrap_or fraction []) ≡ true
  pub some_digit : 0 < length whole + length (unwrap_or fraction [])
  pub short_fraction : length (unwrap_or fraction []) ≤ 18
  pub small_whole : digits_worth whole < 2 ^ 64
  pub number_is : number ≡ number_read fraction (signed (is_minus sign) (units_of whole (unwrap_or fraction [])))
