-- A date that C hands over, and what a call returns that writes one.
use Rattle.std.specs.Prelude.{◌≡◌, ◌≢◌, ◌⊎◌, ℕ, Bool, true, false, List, [], ◌∷◌, Option, Some, None, Result, Ok, Err, IsErr, IsOk, IsSome, map, pos, int_lt, unsigned_abs}
use Rattle.fluent_date.specs.Civil.{date_of, offset_of, time_of}
use Rattle.fluent_date.specs.Merge.{merged}
use Rattle.fluent_date.specs.Options.{Options, no_options}
use Rattle.fluent_date.specs.declared.civil.CivilDate.{CivilDate}
use Rattle.fluent_date.specs.declared.date_time.FluentDateTime.{FluentDateTime}
use Rattle.fluent_date.specs.declared.error.DateError.{DateError}
use Rattle.fluent_date.specs.declared.offset.Offset.{Offset}
use Rattle.fluent_date.specs.declared.time.TimeOfDay.{TimeOfDay}
use Rattle.fluent_date_tables.specs.Tables.{Row}
use Rattle.fluent_dates.specs.Lookup.{locale_for}
use Rattle.fluent_dates.specs.Writing.{date_text}
use Rattle.fluent_grammar.specs.Words.{Text}
use Rattle.fluent_value.specs.Args.{all_set, argument, number_of, text_of}
use Rattle.fluent_value.specs.Value.{Value}
use Rattle.fluent_c.specs.Arguments.{AreRefusedFor, AreTaken, HoldsBad}
use Rattle.fluent_kept.specs.Given.{pair_of}
use Rattle.fluent_c.specs.Made.{Holds}
use Rattle.fluent_c.specs.Statuses.{IsOneOf}
use Rattle.fluent_c.specs.declared.TheConstants.{FLUENT_READ, FLUENT_NOT_UTF8, FLUENT_NO_MEMORY, FLUENT_UNKNOWN_LOCALE, FLUENT_BAD_ARGUMENT}
use Rattle.fluent_c.specs.declared.arguments.ArgumentRefusal.TheVariants.{NotUtf8}
use Rattle.fluent_kept.specs.declared.given.FluentArgument.{FluentArgument}
use Rattle.fluent_c.specs.declared.dates.FluentDate.{FluentDate}
use Rattle.fluent_c.specs.declared.text.FluentText.{FluentText}

-- a value that is there, of what may be wrong
abbrev pub given : {A E : Type 0} → Result A E → Result (Option A) E
given (Ok value) = Ok (Some value)
given (Err error) = Err error

abbrev pub if_given : {A E : Type 0} → Bool → Result A E → Result (Option A) E
if_given false value = Ok None
if_given true value = given value

-- the time of a date, if it has one
abbrev pub time_given : FluentDate → Result (Option TimeOfDay) DateError
time_given d = if_given d.has_time (time_of d.hour d.minute d.second d.nanosecond)

-- the offset of its clock, if that is known; it is negative if the clock shows less than UTC
abbrev pub offset_given : FluentDate → Result (Option Offset) DateError
offset_given d = if_given d.has_offset (offset_of (int_lt d.offset (pos 0)) (unsigned_abs d.offset))

-- a date, a time and an offset in one value, or what is wrong with the first that isn't one
module _ (options : Options) where
  abbrev pub with_offset : CivilDate → Option TimeOfDay → Result (Option Offset) DateError → Result FluentDateTime DateError
  with_offset date time (Ok offset) = Ok (record { date = date; time = time; offset = offset; options = options })
  with_offset date time (Err error) = Err error

  abbrev pub with_time : CivilDate → Result (Option TimeOfDay) DateError → Result (Option Offset) DateError → Result FluentDateTime DateError
  with_time date (Ok time) offset = with_offset date time offset
  with_time date (Err error) offset = Err error

  abbrev pub dated : Result CivilDate DateError → Result (Option TimeOfDay) DateError → Result (Option Offset) DateError → Result FluentDateTime DateError
  dated (Ok date) time offset = with_time date time offset
  dated (Err error) time offset = Err error

-- the value of a date's numbers, or what is wrong with them
abbrev pub moment_given : FluentDate → Options → Result FluentDateTime DateError
moment_given d options = dated options (date_of d.year d.month d.day) (time_given d) (offset_given d)

-- the options that arguments set by their names; of one name the last counts
abbrev pub table_given : List FluentArgument → List (Text × Value FluentDateTime)
table_given options = all_set [] (map pair_of options)

abbrev pub options_given : List FluentArgument → Options
options_given options =
    merged (λ name. text_of (argument name (table_given options))) (λ name. number_of (argument name (table_given options))) no_options

-- a text holds that of a value in a locale, if there are both
abbrev pub HoldsText : FluentText → Option Row → Result FluentDateTime DateError → Type 0
HoldsText made None value = ⊥
HoldsText made (Some row) (Ok value) = Holds made (date_text row value)
HoldsText made (Some row) (Err error) = ⊥

-- a text holds a date as a locale writes it by options
abbrev pub HoldsDate : FluentText → Text → FluentDate → List FluentArgument → Type 0
HoldsDate made locale date options = HoldsText made (locale_for locale) (moment_given date (options_given options))

-- what a call returns that writes a date
pub record WritesDate (locale : Text) (date : FluentDate) (options : List FluentArgument) (status : ℕ) : Type 0 where
  pub decided : IsOneOf status (FLUENT_READ ∷ FLUENT_NOT_UTF8 ∷ FLUENT_NO_MEMORY ∷ FLUENT_UNKNOWN_LOCALE ∷ FLUENT_BAD_ARGUMENT ∷ [])
  pub unknown_locale : status ≡ FLUENT_UNKNOWN_LOCALE → locale_for locale ≡ None
  pub known_locale : status ≢ FLUENT_UNKNOWN_LOCALE → IsSome (locale_for locale)
  pub not_utf8 : status ≡ FLUENT_NOT_UTF8 → AreRefusedFor options NotUtf8
  pub bad_argument : status ≡ FLUENT_BAD_ARGUMENT → HoldsBad options ⊎ IsErr (moment_given date (options_given options))
  pub taken : status ≡ FLUENT_READ → AreTaken options
  pub is_date : status ≡ FLUENT_READ → IsOk (moment_given date (options_given options))
