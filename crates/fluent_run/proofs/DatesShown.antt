-- How a formatter of locales shows values, and what a message gives with dates.
use Rattle.std.proofs.Common.{◌≡◌, Bool, List, Option, None, Some, ap, map, refl, ◌∙◌}
use Rattle.std.specs.Prelude.{option_map}
use denote.Ref.{Bor}
use Rattle.fluent_date.specs.declared.date_time.FluentDateTime.{FluentDateTime}
use Rattle.fluent_dates.specs.Called.{date_called}
use Rattle.fluent_date_tables.specs.Tables.{Row}
use Rattle.fluent_dates.specs.Lookup.{row_of}
use Rattle.fluent_dates.specs.Shown as by_formatter
use Rattle.fluent_dates.specs.Shown.{shown_by}
use Rattle.fluent_dates.specs.declared.dates.LocaleDates.{LocaleDates}
use Rattle.fluent_dates.specs.declared.formatter.LocaleFormatter.{LocaleFormatter}
use Rattle.fluent_numerals.specs.Lookup.{Locale}
use Rattle.fluent_numerals.specs.Views.{locale_view}
use Rattle.fluent_numerals.specs.declared.numerals.LocaleNumerals.{LocaleNumerals}
use Rattle.fluent_dates.specs.declared.function.DateTimeFunction.{DateTimeFunction}
use Rattle.fluent_dates.specs.declared.value.DateTimeValue.{DateTimeValue}
use Rattle.fluent_answers.specs.Sources.{formatted_in, ids_of}
use Rattle.fluent_grammar.specs.Tiling.{runtime_tree}
use Rattle.fluent_grammar.specs.Words.{Text}
use Rattle.fluent_ids.specs.declared.ids.FluentIds.{FluentIds}
use Rattle.fluent_resource.specs.ResourceView.{entries_view}
use Rattle.fluent_resource.specs.declared.resource.FluentResource.{FluentResource}
use Rattle.fluent_run.proofs.Environments.{ids-read}
use Rattle.fluent_run.specs.DeskView.{desk_ids, ids_added, plain_ids}
use Rattle.fluent_run.specs.declared.desk.Desk.{Desk}
use Rattle.fluent_serve.specs.Texts.{texts}
use Rattle.fluent_run.specs.Dated.{AreDatedIds, DateGives, date_shown, shown_in, with_datetime}
use Rattle.fluent_value.specs.Value.{Value, custom, error, none, number, text}
use Rattle.fluent_value.specs.View.{value_view}
use Rattle.fluent_value.specs.declared.value.FluentValue.{FluentValue}
use Rattle.fluent_value.specs.declared.value.FluentValue.TheVariants as of

-- a date
date-same : (dates : Option LocaleDates) (date : FluentDateTime) → by_formatter.date_shown dates date ≡ date_shown (row_of dates) date
date-same None date = refl
date-same (Some dates) date = refl

-- any other value
other-same : (numerals : Option LocaleNumerals) (v : Value FluentDateTime) → by_formatter.other_shown numerals v ≡ formatted_in (option_map locale_view numerals) v
other-same None v = refl
other-same (Some numerals) v = refl

-- a formatter shows a value as its locales do
pub shown_same : (f : LocaleFormatter) (v : Value FluentDateTime) → shown_by f v ≡ shown_in (row_of f.dates) (option_map locale_view f.numerals) v
shown_same f (text s) = other-same f.numerals (text s)
shown_same f (number n) = other-same f.numerals (number n)
shown_same f (custom date) = date-same f.dates date
shown_same f none = other-same f.numerals none
shown_same f error = other-same f.numerals error

-- a value that is no date
pub shown_other : (dates : Option Row) (numerals : Option Locale) (value : FluentValue DateTimeValue) → ((date : DateTimeValue) → value ≡ of.Custom date → ⊥) →
    shown_in dates numerals (value_view (λ c. c.0) value) ≡ formatted_in numerals (value_view (λ c. c.0) value)
shown_other dates numerals (of.String s) other = refl
shown_other dates numerals (of.Number n) other = refl
shown_other dates numerals (of.Custom date) other = absurd (other date refl)
shown_other dates numerals of.None other = refl
shown_other dates numerals of.Error other = refl

-- what functions give that are none but `DATETIME`
abbrev pub gives_datetime : DateGives DateTimeFunction
gives_datetime f = date_called

-- the ids of a desk are those of the sources, and `DATETIME`
pub ids-dated : {M : Type 0} (overriding : Bool) (desk : Desk M DateTimeFunction) (ids : FluentIds DateTimeFunction) (lent resources : List FluentResource) (sources : List (Bor Text)) →
    desk_ids desk ≡ plain_ids ids → AreDatedIds overriding lent ids → lent ≡ resources → map entries_view resources ≡ map runtime_tree (texts sources) →
    desk_ids desk ≡ with_datetime (ids_of overriding (texts sources))
ids-dated overriding desk ids lent resources sources made are these read =
    made ∙ (are ∙ ap with_datetime (ap (ids_added overriding) these ∙ ids-read overriding resources (texts sources) read))
