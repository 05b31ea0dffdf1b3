-- Dates among the arguments of `ftl format`, and what a message gives with them.
use Rattle.std.specs.Prelude.{if◌then◌else◌, ℕ, Bool, List, [], ◌∷◌, Option, None, Some, Result, Ok, Err, codes, is_some, option_and_then}
use Rattle.std.specs.List.{flat_map, list_any}
use Rattle.std.specs.Str.{bytes_eq}
use Rattle.fluent_answers.specs.Answers.{reply_to}
use Rattle.fluent_answers.specs.Sources.{Settings}
use Rattle.fluent_date.specs.Reading.{iso_value}
use Rattle.fluent_date.specs.declared.date_time.FluentDateTime.{FluentDateTime}
use Rattle.fluent_date.specs.declared.error.DateError.{DateError}
use Rattle.fluent_date_tables.specs.Tables.{Row}
use Rattle.fluent_dates.specs.Lookup.{locale_for}
use Rattle.fluent_grammar.specs.Words.{Text}
use Rattle.fluent_run.specs.Dated.{dated_environment}
use Rattle.fluent_serve.specs.Frames.{Reply}
use Rattle.fluent_serve.specs.Requests.{Request, argument_of}
use Rattle.fluent_serve.specs.Text.{cut_at}
use Rattle.fluent_value.specs.Matching.{Plurals}
use Rattle.fluent_value.specs.Value.{Value, custom, number_or_text}
use Rattle.ftl_arguments.specs.Meaning.{Format}
use Rattle.ftl_command.specs.Plurals.{Rules, category_in}

-- ---- the arguments

abbrev pub colon : ℕ
colon = 58

-- The variable whose value is a date, by the name of an argument: `due` by `due:date`. No variable has a colon in its name.
abbrev pub variable_by : Option (Text × Text) → Option Text
variable_by None = None
variable_by (Some (variable, kind)) = if bytes_eq kind (codes "date") then Some variable else None

abbrev pub date_variable : Text → Option Text
date_variable name = variable_by (argument_of (λ s. s) (cut_at colon name))

-- whether an argument is a date, and whether one of several is
abbrev pub is_dated : Text × Text → Bool
is_dated argument = is_some (date_variable argument.0)

abbrev pub has_date : List (Text × Text) → Bool
has_date arguments = list_any is_dated arguments

-- a variable with a date as its value; if the text was none, the variable isn't set
abbrev pub dated : Text → Result FluentDateTime DateError → List (Text × Value FluentDateTime)
dated variable (Ok date) = (variable, custom date) ∷ []
dated variable (Err error) = []

-- what an argument sets: a date, or what it sets without dates
abbrev pub set_by : Option Text → Text × Text → List (Text × Value FluentDateTime)
set_by None a = (a.0, number_or_text a.1) ∷ []
set_by (Some variable) a = dated variable (iso_value a.1)

abbrev pub values_of : Text × Text → List (Text × Value FluentDateTime)
values_of a = set_by (date_variable a.0) a

-- a request with values in the place of its arguments' texts
abbrev pub with_dates : Request Text → Request (Value FluentDateTime)
with_dates r = record { id = r.id; attribute = r.attribute; arguments = flat_map values_of r.arguments }

-- ---- what a message gives

-- what dates are written by: the locale that is asked for, if CLDR knows its language, unless they are to be plain, as numbers
abbrev pub dates_asked : Bool → Option Text → Option Row
dates_asked plain locale = if plain then None else option_and_then locale_for locale

-- what sources have for a request among whose arguments is a date
abbrev pub reply_dated : Plurals → Settings → Option Row → List Text → Request Text → Option Reply
reply_dated plurals settings dates sources request = reply_to (dated_environment plurals settings dates sources) (with_dates request)

-- how `ftl format` makes answers, by these rules of a locale
abbrev pub settings_for : Rules → Format → Settings
settings_for by f = record { isolating = f.isolating; overriding = f.overriding; numerals = by.numerals }

-- what the sources have for the message that `ftl format` asks for with a date among its arguments
abbrev pub dated_for : Rules → Format → List Text → Option Reply
dated_for by f sources = reply_dated (category_in by.plurals) (settings_for by f) (dates_asked f.plain_numbers f.locale) sources f.request
