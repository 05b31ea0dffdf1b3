-- The arguments of a message, as a caller that isn't Rattle passes them.
use Rattle.std.specs.Prelude.{◌≡◌, ◌==◌, if◌then◌else◌, List, [], Option, Some, None, Result, Ok, Err, IfSome, IsUtf8, All, Contains, map, option_map, unwrap_or, pos}
use denote.Ref.{Bor}
use Rattle.fluent_date.specs.Reading.{iso_value}
use Rattle.fluent_date.specs.declared.date_time.FluentDateTime.{FluentDateTime}
use Rattle.fluent_date.specs.declared.error.DateError.{DateError}
use Rattle.fluent_dates.specs.declared.value.DateTimeValue.{DateTimeValue}
use Rattle.fluent_grammar.specs.Words.{Text}
use Rattle.fluent_number.specs.Number.{Number, number_from_integer}
use Rattle.fluent_number.specs.Options.{default_options}
use Rattle.fluent_number.specs.Reading.{read_number}
use Rattle.fluent_value.specs.Args.{all_set}
use Rattle.fluent_value.specs.Value.{Value, custom, error, none, number, text}
use Rattle.fluent_value.specs.View.{value_view}
use Rattle.fluent_value.specs.declared.value.FluentValue.{FluentValue}
use Rattle.fluent_kept.specs.declared.TheConstants.{FLUENT_TEXT, FLUENT_DECIMAL, FLUENT_UNSIGNED, FLUENT_NO_VALUE, FLUENT_FLOAT, FLUENT_DATETIME}
use Rattle.fluent_kept.specs.declared.given.FluentArgument.{FluentArgument}

-- the number that a text is, if it is one
abbrev pub number_given : Text → Option (Value FluentDateTime)
number_given t = option_map number (read_number t)

-- A float has no written digits, so how much it is doesn't say how many digits are shown.
abbrev pub without_digits : Number → Number
without_digits n = record { value = n.value; options = default_options }

abbrev pub float_given : Text → Option (Value FluentDateTime)
float_given t = option_map (λ n. number (without_digits n)) (read_number t)

-- the date that a text is, if it is one
abbrev pub date_read : Result FluentDateTime DateError → Option (Value FluentDateTime)
date_read (Ok date) = Some (custom date)
date_read (Err refused) = None

abbrev pub date_given : Text → Option (Value FluentDateTime)
date_given t = date_read (iso_value t)

-- the value of an argument, if it has one: by its kind its text, also if that is a number's; the number that its text is, with its
-- digits or without them; one of its integers; what a missing value is; or the date that its text is by ISO 8601
abbrev pub value_given : FluentArgument → Option (Value FluentDateTime)
value_given a =
    if a.kind == FLUENT_TEXT then Some (text a.text.now) else (if a.kind == FLUENT_DECIMAL then number_given a.text.now else (if a.kind == 2
    then Some (number (number_from_integer a.integer)) else (if a.kind == FLUENT_UNSIGNED then Some (number (number_from_integer (pos a.unsigned)))
    else (if a.kind == FLUENT_NO_VALUE then Some error else (if a.kind == FLUENT_FLOAT
    then float_given a.text.now else (if a.kind == FLUENT_DATETIME then date_given a.text.now else None))))))

-- what the code's value stands for
abbrev pub value_seen : Option (FluentValue DateTimeValue) → Option (Value FluentDateTime)
value_seen found = option_map (value_view (λ c. c.0)) found

-- an argument's name and its value
abbrev pub pair_of : FluentArgument → Text × Value FluentDateTime
pair_of a = (a.name.now, unwrap_or (value_given a) none)

-- what an argument stands for
abbrev pub meant : FluentArgument → Value FluentDateTime
meant a = (pair_of a).1

-- the values of arguments by their names: of those of one name the last counts
abbrev pub given_view : List FluentArgument → List (Text × Value FluentDateTime)
given_view given = all_set [] (map pair_of given)

-- its name and its text are UTF-8
abbrev pub HasTexts : FluentArgument → Type 0
HasTexts a = IsUtf8 a.name.now × IsUtf8 a.text.now

-- the value of an argument that was found
abbrev pub found_value : Option (Bor FluentArgument) → Option (Value FluentDateTime)
found_value found = option_map (λ a. (pair_of a.now).1) found

-- it is one of these
abbrev pub IsAmong : List FluentArgument → Option (Bor FluentArgument) → Type 0
IsAmong given found = IfSome found (λ a. Contains given a.now)
