-- The functions that come with the library: a table with a row for each, which says what is known of it without a call.
use Rattle.std.specs.Prelude.{Bool, true, false, List, [], ◌∷◌, Option, Some, None, option_map, is_some, codes}
use Rattle.std.specs.List.{find}
use Rattle.std.specs.Str.{bytes_eq}
use Rattle.fluent_grammar.specs.Words.{Text}

-- ---- what is known of a function

-- what an option takes: a number, any text, or one of these texts
pub data Takes : Type 0 where
  a_number : Takes
  any_text : Takes
  one_of : List Text → Takes

pub record FunctionOption : Type 0 where
  pub name : Text
  pub takes : Takes

-- what the first argument of a function has to be
pub data Operand : Type 0 where
  number : Operand
  date : Operand

-- Next to one of its styles a component doesn't count.
pub record Builtin : Type 0 where
  pub name : Text
  pub operand : Operand
  pub options : List FunctionOption
  pub styles : List Text
  pub components : List Text

-- ---- the table

abbrev o : Text → Takes → FunctionOption
o name takes = record { name = name; takes = takes }

-- Its options are those that `merge` reads, with the texts that `merge` has a name for; each text names a currency.
abbrev pub number_row : Builtin
number_row = record {
  name = codes "NUMBER";
  operand = number;
  options =
      o (codes "type") (one_of (codes "ordinal" ∷ codes "cardinal" ∷ [])) ∷
      o (codes "minimumFractionDigits") a_number ∷
      o (codes "maximumFractionDigits") a_number ∷
      o (codes "minimumIntegerDigits") a_number ∷
      o (codes "minimumSignificantDigits") a_number ∷
      o (codes "maximumSignificantDigits") a_number ∷
      o (codes "useGrouping") (one_of (codes "true" ∷ codes "false" ∷ [])) ∷
      o (codes "style") (one_of (codes "decimal" ∷ codes "percent" ∷ codes "currency" ∷ [])) ∷
      o (codes "currency") any_text ∷
      o (codes "currencyDisplay") (one_of (codes "symbol" ∷ codes "code" ∷ codes "name" ∷ [])) ∷
      [];
  styles = [];
  components = [];
}

-- the styles of a date, the widths of a name, and those of a number
abbrev pub date_styles : List Text
date_styles = codes "full" ∷ codes "long" ∷ codes "medium" ∷ codes "short" ∷ []

abbrev pub name_widths : List Text
name_widths = codes "narrow" ∷ codes "short" ∷ codes "long" ∷ []

abbrev pub digit_widths : List Text
digit_widths = codes "numeric" ∷ codes "2-digit" ∷ []

-- Its options are those that `merge` of dates reads, with the texts that it has a name for.
abbrev pub date_row : Builtin
date_row = record {
  name = codes "DATETIME";
  operand = date;
  options =
      o (codes "dateStyle") (one_of date_styles) ∷
      o (codes "timeStyle") (one_of date_styles) ∷
      o (codes "hour12") (one_of (codes "true" ∷ codes "false" ∷ [])) ∷
      o (codes "hourCycle") (one_of (codes "h11" ∷ codes "h12" ∷ codes "h23" ∷ codes "h24" ∷ [])) ∷
      o (codes "weekday") (one_of name_widths) ∷
      o (codes "era") (one_of name_widths) ∷
      o (codes "year") (one_of digit_widths) ∷
      o (codes "month") (one_of (codes "numeric" ∷ codes "2-digit" ∷ name_widths)) ∷
      o (codes "day") (one_of digit_widths) ∷
      o (codes "dayPeriod") (one_of name_widths) ∷
      o (codes "hour") (one_of digit_widths) ∷
      o (codes "minute") (one_of digit_widths) ∷
      o (codes "second") (one_of digit_widths) ∷
      o (codes "fractionalSecondDigits") a_number ∷
      o (codes "timeZoneName") (one_of (codes "short" ∷ codes "long" ∷ codes "shortOffset" ∷ codes "longOffset" ∷ codes "shortGeneric" ∷ codes "longGeneric" ∷ [])) ∷
      [];
  styles = codes "dateStyle" ∷ codes "timeStyle" ∷ [];
  components =
      codes "weekday" ∷ codes "era" ∷ codes "year" ∷ codes "month" ∷ codes "day" ∷ codes "dayPeriod" ∷ codes "hour" ∷ codes "minute" ∷
      codes "second" ∷ codes "fractionalSecondDigits" ∷ codes "timeZoneName" ∷
      [];
}

abbrev pub builtins : List Builtin
builtins = number_row ∷ date_row ∷ []

-- ---- looking up

abbrev pub row_named : List Builtin → Text → Option Builtin
row_named rows name = find (λ row. bytes_eq row.name name) rows

abbrev pub builtin_named : Text → Option Builtin
builtin_named name = row_named builtins name

-- what the option of this name takes, if there is one
abbrev pub taken_by : List FunctionOption → Text → Option Takes
taken_by options name = option_map (λ option. option.takes) (find (λ option. bytes_eq option.name name) options)

abbrev pub has_option : Builtin → Text → Bool
has_option row name = is_some (taken_by row.options name)

abbrev pub takes_number : Operand → Bool
takes_number number = true
takes_number date = false

abbrev pub is_of_number : Option Builtin → Bool
is_of_number None = false
is_of_number (Some row) = takes_number row.operand

-- whether a function returns a number that it is given, so that a select chooses by its plural category
abbrev pub returns_number : Text → Bool
returns_number id = is_of_number (builtin_named id)
