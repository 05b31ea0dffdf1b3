-- Numbers that are written by their ASCII digits alone.
use Rattle.std.specs.Prelude.{◌≡◌, ◌<◌, ℕ, List, [], ◌∷◌, false, None, decimal}
use Rattle.fluent_number.specs.Decimal.{is_below_zero, whole_of, fraction_of}
use Rattle.fluent_number.specs.Number.{Number}
use Rattle.fluent_number.specs.declared.options.FluentNumberStyle.TheVariants as style
use Rattle.fluent_numerals.specs.Forms.{Pattern}
use Rattle.fluent_numerals.specs.Lookup.{Locale}
use Rattle.fluent_numerals.specs.Text.{numeral_text}
use Rattle.fluent_numerals.specs.declared.pattern.Piece.{Piece}
use Rattle.fluent_numerals.specs.declared.pattern.Piece.TheVariants as piece

-- no piece stands there
abbrev pub nothing : List Piece
nothing = piece.Nothing ∷ piece.Nothing ∷ piece.Nothing ∷ []

-- the last group has three digits, and nothing stands around the digits of numbers that aren't below zero
pub record EndsInThreeDigits (p : Pattern) : Type 0 where
  pub before : p.prefix ≡ nothing
  pub after : p.suffix ≡ nothing
  pub three : p.primary ≡ 3

-- a number is this whole number, and no option asks for anything but its digits
pub record IsBare (n : Number) (whole : ℕ) : Type 0 where
  pub positive : is_below_zero n.value ≡ false
  pub integer : whole_of n.value ≡ whole
  pub fraction : fraction_of n.value ≡ 0
  pub decimal : n.options.style ≡ style.Decimal
  pub integer_digits : n.options.minimum_integer_digits ≡ None
  pub fraction_digits : n.options.minimum_fraction_digits ≡ None
  pub least_significant : n.options.minimum_significant_digits ≡ None
  pub most_significant : n.options.maximum_significant_digits ≡ None

-- below this bound, whole numbers of which no option asks for anything else are written by their ASCII digits alone
abbrev pub WritesPlainlyBelow : Locale → ℕ → Type 0
WritesPlainlyBelow l bound = (n : Number) (whole : ℕ) → IsBare n whole → whole < bound → numeral_text l n ≡ decimal whole
