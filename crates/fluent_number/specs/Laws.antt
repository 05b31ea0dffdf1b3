-- The laws of numbers.
use Rattle.std.specs.Prelude.{◌≡◌, ◌↔◌, Bool, true, ℕ, ℤ, ◌^◌, ◌<◌, min, ◌&&◌, ◌==◌, nat_lt, nat_le, if◌then◌else◌, List, [], ◌∷◌, ◌++◌, length, take, Option, Some, None, is_none, unwrap_or}
use Rattle.fluent_number.specs.Conversion.{signed_of, unsigned_of}
use Rattle.fluent_number.specs.Decimal.{whole_of}
use Rattle.fluent_number.specs.Digits.{Text, digits_worth, without_end_zeros}
use Rattle.fluent_number.specs.Number.{Number, number_of, number_from_integer}
use Rattle.fluent_number.specs.Operands.{operands_of}
use Rattle.fluent_number.specs.Reading.{read_number, number_read, numeral_of, without_sign, begins_with_minus}
use Rattle.fluent_number.specs.Spelling.{Spells, point_text}
use Rattle.fluent_number.specs.Text.{number_text, fraction_text, filled_up}
use Rattle.fluent_number.specs.declared.number.FluentNumber.{FluentNumber}

-- A text is read as a number exactly if it spells that number.
abbrev pub ReadsWhatIsSpelled : Type 0
ReadsWhatIsSpelled = (text : Text) (number : Number) → (read_number text ≡ Some number) ↔ Spells text number

-- the digits that a number's text has after the point, if it has a point
abbrev pub shown_fraction : Number → Option Text
shown_fraction number =
    let least = number.options.minimum_fraction_digits in
    let digits = fraction_text number.value in
    if is_none least && length digits == 0 then None else Some (filled_up (unwrap_or least 0) digits)

-- the number of the same value that asks for the digits that its text shows, if 18 hold them, and has no other option
abbrev pub as_shown : Number → Option Number
as_shown number =
    if nat_le (length (unwrap_or (shown_fraction number) [])) 18
    then Some (number_read (shown_fraction number) number.value) else None

-- The text of a number is read as that number: of its options the count of digits shown stays.
abbrev pub ReadsItsText : Type 0
ReadsItsText = (number : Number) → whole_of number.value < 2 ^ 64 → read_number (number_text number) ≡ as_shown number

-- A number that was read is read again from its text, the same in all its options.
abbrev pub ReadsAgain : Type 0
ReadsAgain = (text : Text) (number : Number) → read_number text ≡ Some number → read_number (number_text number) ≡ Some number

-- digits from the first one that isn't 0 on
abbrev pub without_front_zeros : Text → Text
without_front_zeros [] = []
without_front_zeros (c ∷ cs) = if c == 48 then without_front_zeros cs else c ∷ cs

-- a whole part without zeros at the front: one zero is left of zeros, and stands where no digit stood
abbrev pub tidied_whole : Text → Text
tidied_whole digits =
    let kept = without_front_zeros digits in if length kept == 0 then 48 ∷ [] else kept

-- A number's text as it is written again: without a plus, without a minus before zero, without zeros before the whole part
-- and with a digit there. What is after the point stays.
abbrev pub tidied : Text → Text
tidied text =
    let numeral = numeral_of (without_sign text) in
    let digits = numeral.whole ++ unwrap_or numeral.fraction [] in
    (if begins_with_minus text && nat_lt 0 (digits_worth digits) then 45 ∷ [] else [])
    ++ (tidied_whole numeral.whole ++ point_text numeral.fraction)

-- The text of a number that was read is the text that was read, tidied.
abbrev pub WritesWhatWasRead : Type 0
WritesWhatWasRead = (text : Text) (number : Number) → read_number text ≡ Some number → number_text number ≡ tidied text

-- the digits after the point in a number's text
abbrev pub digits_behind : Number → Text
digits_behind number = unwrap_or (numeral_of (without_sign (number_text number))).fraction []

-- The operands are what the digits of the number's text say, of which at most 18 after the point count.
pub record AgreesWithText (number : Number) : Type 0 where
  pub i : (operands_of number).i ≡ digits_worth (numeral_of (without_sign (number_text number))).whole
  pub v : (operands_of number).v ≡ min (length (digits_behind number)) 18
  pub w : (operands_of number).w ≡ length (without_end_zeros (digits_behind number))
  pub f : (operands_of number).f ≡ digits_worth (take (operands_of number).v (digits_behind number))
  pub t : (operands_of number).t ≡ digits_worth (without_end_zeros (digits_behind number))

abbrev pub OperandsAgreeWithText : Type 0
OperandsAgreeWithText = (number : Number) → whole_of number.value < 2 ^ 64 → AgreesWithText number

-- a test finds two values equal exactly if they look the same
abbrev pub EqualWhereSeenSame : {A B : Type 0} → (A → A → Bool) → (A → B) → Type 0
EqualWhereSeenSame {A} equal seen = (x y : A) → (equal x y ≡ true) ↔ (seen x ≡ seen y)

-- what a test finds equal is fed to a hasher alike
abbrev pub HashesEqualAlike : {A : Type 0} → (A → A → Bool) → (A → List (List ℕ)) → Type 0
HashesEqualAlike {A} equal fed = (x y : A) → equal x y ≡ true → fed x ≡ fed y

-- Whatever a conversion from integers gives is the number that the integer is, with default options.
abbrev pub BecomesNumber : {A : Type 0} → (A → FluentNumber → Type 0) → (A → ℤ) → Type 0
BecomesNumber {A} gives integer = (x : A) (number : FluentNumber) → gives x number → number_of number ≡ number_from_integer (integer x)

-- Whatever a conversion to a signed type of this many bits gives is the type's integer nearest to the number's whole part.
abbrev pub BecomesSigned : {A : Type 0} → ℕ → (A → ℤ → Type 0) → (A → ℤ) → Type 0
BecomesSigned {A} bits gives value = (x : A) (n : ℤ) → gives x n → n ≡ signed_of bits (value x)

-- the same of an unsigned type
abbrev pub BecomesUnsigned : {A : Type 0} → ℕ → (A → ℕ → Type 0) → (A → ℤ) → Type 0
BecomesUnsigned {A} bits gives value = (x : A) (n : ℕ) → gives x n → n ≡ unsigned_of bits (value x)
