-- What a locale writes numbers by.
use Prim.Native.String.{String}
use Rattle.std.specs.Prelude.{ℕ, List, [], ◌∷◌, Option, Some, None, codes, slice_index, if◌then◌else◌}
use Rattle.std.specs.Str.{str_eq_ignore_ascii_case}
use Rattle.fluent_numerals.specs.Tagged.{Text, Entry, utf8}
use Rattle.fluent_numerals.specs.declared.pattern.Piece.{Piece}

-- What stands before and after the digits of numbers that aren't below zero, and of those that are; and how many digits the last
-- group has and how many those before it, 0 if digits aren't grouped.
pub record Pattern : Type 0 where
  pub prefix : List Piece
  pub suffix : List Piece
  pub negative_prefix : List Piece
  pub negative_suffix : List Piece
  pub primary : ℕ
  pub secondary : ℕ

abbrev pub pattern_of : List Piece → List Piece → List Piece → List Piece → ℕ → ℕ → Pattern
pattern_of prefix suffix negative_prefix negative_suffix primary secondary = record {
  prefix = prefix;
  suffix = suffix;
  negative_prefix = negative_prefix;
  negative_suffix = negative_suffix;
  primary = primary;
  secondary = secondary;
}

-- how one style of numbers is written: the characters before the digits after the point and between groups, and the pattern
pub record Form : Type 0 where
  pub decimal : ℕ
  pub group : ℕ
  pub pattern : Pattern

-- `least_grouped` is how many digits there have to be before the last group for any to be grouped (CLDR's
-- minimumGroupingDigits), and `digits` are the characters from 0 to 9.
pub record Forms : Type 0 where
  pub name : Text
  pub digits : List ℕ
  pub minus : Text
  pub percent_sign : Text
  pub least_grouped : ℕ
  pub number : Form
  pub percent : Form
  pub currency : Form

-- a text's one character
abbrev pub sign : String → ℕ
sign text = slice_index (codes text) 0

abbrev pub forms_row : String → List ℕ → String → String → String → String → String → String → ℕ → Pattern → Pattern → Pattern → Forms
forms_row name digits decimal group money_decimal money_group minus percent_sign least_grouped number percent currency = record {
  name = utf8 name;
  digits = digits;
  minus = utf8 minus;
  percent_sign = utf8 percent_sign;
  least_grouped = least_grouped;
  number = record { decimal = sign decimal; group = sign group; pattern = number };
  percent = record { decimal = sign decimal; group = sign group; pattern = percent };
  currency = record { decimal = sign money_decimal; group = sign money_group; pattern = currency };
}

-- A currency: its code, how many digits its amounts have after the point, its symbol where a locale has no other one, the
-- symbols of locales by tag, and the names of the forms that locales write its amounts by if not by their own.
pub record Currency : Type 0 where
  pub code : Text
  pub digits : ℕ
  pub symbol : Text
  pub symbols : List Entry
  pub own : List Entry

abbrev pub currency_row : String → ℕ → String → List Entry → List Entry → Currency
currency_row code digits symbol symbols own = record {
  code = utf8 code;
  digits = digits;
  symbol = utf8 symbol;
  symbols = symbols;
  own = own;
}

-- the first row of this code, in letters of either case
abbrev pub coded : List Currency → Text → Option Currency
coded [] code = None
coded (row ∷ rows) code = if str_eq_ignore_ascii_case row.code code then Some row else coded rows code
