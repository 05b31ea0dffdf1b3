-- What the locale of a run decides: the plural rules that choose variants, and how numbers are written.
use Rattle.std.specs.Prelude.{Bool, if◌then◌else◌, Option, Some, None, option_and_then, option_map}
use Rattle.fluent_number.specs.Plurals.{english}
use Rattle.fluent_numerals.specs.Lookup.{Locale, locale_for}
use Rattle.fluent_numerals.specs.Views.{locale_view}
use Rattle.fluent_plurals.specs.Plurals.{plurals_by, plurals_for}
use Rattle.fluent_plurals.specs.declared.plurals.LanguagePlurals.{LanguagePlurals}
use Rattle.fluent_serve.specs.Text.{Text}
use Rattle.fluent_value.specs.Matching.{Plurals}
use Rattle.ftl_command.specs.declared.plurals.RunPlurals.{RunPlurals}
use Rattle.ftl_command.specs.declared.plurals.RunPlurals.TheVariants.{English, Language}
use Rattle.ftl_command.specs.declared.plurals.RunRules as code

-- the category of a number by them
abbrev pub category_in : RunPlurals → Plurals
category_in English = english
category_in (Language plurals) = plurals_by plurals

-- those of the locale that is asked for, if it has any, and those of English if none is
abbrev pub plurals_asked : Option Text → Option RunPlurals
plurals_asked None = Some English
plurals_asked (Some tag) = option_map Language (plurals_for tag)

-- The locale whose numbers are written: that which is asked for, if CLDR knows how it writes them. None is if they are to be plain.
abbrev pub numerals_asked : Bool → Option Text → Option Locale
numerals_asked plain locale = if plain then None else option_and_then locale_for locale

-- both, as plain data
pub record Rules : Type 0 where
  pub plurals : RunPlurals
  pub numerals : Option Locale

abbrev pub rules_view : code.RunRules → Rules
rules_view rules = record { plurals = rules.plurals; numerals = option_map locale_view rules.numerals }

-- what the locale that is asked for decides, if it has plural rules, or if none is asked for
abbrev pub rules_asked : Bool → Option Text → Option Rules
rules_asked plain locale = option_map (λ plurals. record { plurals = plurals; numerals = numerals_asked plain locale }) (plurals_asked locale)

-- those of the locale's language alone, if one is named; and none if it has none
abbrev pub language_asked : Option Text → Option (Option LanguagePlurals)
language_asked None = Some None
language_asked (Some tag) = option_map Some (plurals_for tag)
