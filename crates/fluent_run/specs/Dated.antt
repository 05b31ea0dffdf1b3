-- What messages give with dates among their arguments.
use Rattle.std.specs.Prelude.{◌≡◌, Bool, false, List, Option, None, Some, codes, option_copied, option_map}
use denote.Ref.{Bor}
use Rattle.fluent_answers.specs.Sources.{Settings, formatted_in, ids_of}
use Rattle.fluent_date.specs.Iso.{iso_text}
use Rattle.fluent_date.specs.declared.date_time.FluentDateTime.{FluentDateTime}
use Rattle.fluent_date_tables.specs.Tables.{Row}
use Rattle.fluent_dates.specs.Called.{date_called}
use Rattle.fluent_dates.specs.Lookup.{row_of}
use Rattle.fluent_dates.specs.Writing.{date_text}
use Rattle.fluent_dates.specs.declared.function.DateTimeFunction.{DateTimeFunction}
use Rattle.fluent_dates.specs.declared.value.DateTimeValue.{DateTimeValue}
use Rattle.fluent_grammar.specs.Words.{Text}
use Rattle.fluent_ids.specs.declared.ids.FluentIds.{FluentIds}
use Rattle.fluent_meaning.specs.Environment.{Environment}
use Rattle.fluent_meaning.specs.Ids.{Ids, find, function, with_id}
use Rattle.fluent_numerals.specs.Lookup.{Locale}
use Rattle.fluent_resource.specs.declared.resource.FluentResource.{FluentResource}
use Rattle.fluent_run.specs.DeskView.{ids_added, message_reply, plain_ids}
use Rattle.fluent_run.specs.ReplyView.{reply_view}
use Rattle.fluent_run.specs.RunView.{settings_view}
use Rattle.fluent_run.specs.declared.dated.Dating.{Dating}
use Rattle.fluent_run.specs.declared.reply.Reply as code
use Rattle.fluent_value.specs.ArgsView.{args_view}
use Rattle.fluent_value.specs.Matching.{Plurals}
use Rattle.fluent_value.specs.Value.{Value, custom, error, none, number, text}
use Rattle.fluent_value.specs.declared.args.FluentArgs.{FluentArgs}

-- ---- how values are shown

-- a date as a locale writes it, if there is one
abbrev pub date_shown : Option Row → FluentDateTime → Option Text
date_shown None date = None
date_shown (Some row) date = Some (date_text row date)

-- the text that locales of dates and of numbers have for a value, if there is one and it has
abbrev pub shown_in : Option Row → Option Locale → Value FluentDateTime → Option Text
shown_in dates numerals (text s) = formatted_in {S = FluentDateTime} numerals (text s)
shown_in dates numerals (number n) = formatted_in {S = FluentDateTime} numerals (number n)
shown_in dates numerals (custom date) = date_shown dates date
shown_in dates numerals none = formatted_in {S = FluentDateTime} numerals none
shown_in dates numerals error = formatted_in {S = FluentDateTime} numerals error

-- ---- what messages are resolved in

-- what functions give, for positional values and named arguments
abbrev pub DateGives : Type 0 → Type 0
DateGives F = F → List (Value FluentDateTime) → List (Text × Value FluentDateTime) → Value FluentDateTime

abbrev pub datetime : DateTimeFunction
datetime = record {}

-- ids with `DATETIME` after them: a message or a term of that id stays
abbrev pub with_datetime : Ids DateTimeFunction → Ids DateTimeFunction
with_datetime ids = with_id false ids (codes "DATETIME", function datetime)

-- What stays the same, by what functions give: no transform, and no formatter but that of locales. A date that no locale writes is shown
-- as ISO 8601 has it.
abbrev pub environment_with : {F : Type 0} → Plurals → Settings → Option Row → DateGives F → Ids F → Environment FluentDateTime F
environment_with plurals settings dates gives ids = record {
  find = find ids;
  call = gives;
  isolating = settings.isolating;
  transformed = λ s. s;
  formatted = shown_in dates settings.numerals;
  plurals = plurals;
  shown = iso_text;
}

-- the same by sources, with no functions but `NUMBER` and `DATETIME`
abbrev pub dated_environment : Plurals → Settings → Option Row → List Text → Environment FluentDateTime DateTimeFunction
dated_environment plurals settings dates sources =
    environment_with plurals settings dates (λ f. date_called) (with_datetime (ids_of settings.overriding sources))

-- ---- by the code's own values

-- the values of arguments by their names
abbrev pub dated_view : FluentArgs DateTimeValue → List (Text × Value FluentDateTime)
dated_view values = args_view (λ c. c.0) values

-- these are the ids of resources, and `DATETIME`
abbrev pub AreDatedIds : Bool → List FluentResource → FluentIds DateTimeFunction → Type 0
AreDatedIds overriding resources ids = plain_ids ids ≡ with_datetime (ids_added overriding resources)

-- by what a plural source means, its categories
module _ {M : Type 0} (category_of : M → Plurals) where
  -- what patterns are resolved in, with what ids stand for, and by what functions give
  abbrev pub dating_view : {F L : Type 0} → (L → DateGives F) → Ids F → Dating M L → Environment FluentDateTime F
  dating_view gives ids d = environment_with (category_of d.plurals.now) (settings_view d.settings) (row_of d.dates) (gives d.caller.now) ids

  -- the same by sources, with no functions but `NUMBER` and `DATETIME`
  abbrev pub dating_of : {L : Type 0} → Dating M L → List Text → Environment FluentDateTime DateTimeFunction
  dating_of d sources = dated_environment (category_of d.plurals.now) (settings_view d.settings) (row_of d.dates) sources

  -- this is what a message of sources gives for these values
  abbrev pub IsDatedReply : {L : Type 0} → Dating M L → List Text → Text → Option (Bor Text) → FluentArgs DateTimeValue → Option code.Reply → Type 0
  IsDatedReply d sources id attribute values reply =
      option_map reply_view reply ≡ message_reply (dating_of d sources) id (option_copied attribute) (dated_view values)
