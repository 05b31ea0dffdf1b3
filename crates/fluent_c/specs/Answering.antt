-- What request lines are answered, from sources that C hands over.
use Rattle.std.specs.Prelude.{if◌then◌else◌, Bool, List, [], ◌∷◌, Option, Some, None, IsSomeAnd, option_map, map, IsUtf8, All, Contains}
use Rattle.fluent_answers.specs.Answers.{answers}
use Rattle.fluent_grammar.specs.Words.{Text}
use Rattle.fluent_answers.specs.Sources.{Settings}
use Rattle.fluent_numerals.specs.Lookup.{Locale, locale_for}
use Rattle.fluent_plurals.specs.Plurals.{english_rules, plurals_by, plurals_for, root}
use Rattle.fluent_plurals.specs.declared.plurals.LanguagePlurals.{LanguagePlurals}
use Rattle.fluent_run.specs.RunView.{no_text}
use Rattle.fluent_value.specs.declared.function.NoFunction.{NoFunction}
use Rattle.fluent_c.specs.Locales.{is_posix}
use Rattle.fluent_c.specs.Made.{Holds}
use Rattle.fluent_c.specs.declared.answering.FluentSource.{FluentSource}
use Rattle.fluent_c.specs.declared.text.FluentText.{FluentText}

abbrev pub texts_of : List FluentSource → List Text
texts_of = map (λ s. s.text.now)

-- one of the sources isn't UTF-8
pub record HoldsOther (sources : List FluentSource) : Type 0 where
  pub source : FluentSource
  pub stands : Contains sources source
  pub other : ¬ (IsUtf8 source.text.now)

-- a source is
abbrev pub IsUtf8Source : FluentSource → Type 0
IsUtf8Source source = IsUtf8 source.text.now

-- each of them is
abbrev pub AreUtf8 : List FluentSource → Type 0
AreUtf8 = All IsUtf8Source

-- the plural rules that a locale which isn't empty names: for that of a program which has set none, each number is `other`
abbrev pub plurals_named : Text → Option LanguagePlurals
plurals_named locale = if is_posix locale then Some root else plurals_for locale

-- the same for any, and the rules of English for the empty one
abbrev pub plurals_in : Text → Option LanguagePlurals
plurals_in [] = Some english_rules
plurals_in (byte ∷ tag) = plurals_named (byte ∷ tag)

-- how answers are made
abbrev pub settings_of : Option Locale → Bool → Bool → Settings
settings_of numerals isolating overriding = record { isolating = isolating; overriding = overriding; numerals = numerals }

-- the answers to a stream of request lines by plural rules
abbrev pub answers_by : LanguagePlurals → Settings → List Text → Text → Text
answers_by plurals = answers NoFunction (plurals_by plurals) no_text

-- the answers by the plural rules of a locale, if it has any
abbrev pub answers_in : Settings → Text → List Text → Text → Option Text
answers_in settings locale sources requests = option_map (λ plurals. answers_by plurals settings sources requests) (plurals_in locale)

-- the locale has plural rules, and the text holds the answers by them
abbrev pub IsAnswerBy : Settings → Text → List FluentSource → Text → FluentText → Type 0
IsAnswerBy settings locale sources requests made = IsSomeAnd (answers_in settings locale (texts_of sources) requests) (Holds made)

-- numbers are written as the locale writes them, and plainly if CLDR doesn't say how
abbrev pub IsAnswer : Text → Bool → Bool → List FluentSource → Text → FluentText → Type 0
IsAnswer locale isolating overriding = IsAnswerBy (settings_of (locale_for locale) isolating overriding) locale

-- numbers are written plainly
abbrev pub IsPlain : Text → Bool → Bool → List FluentSource → Text → FluentText → Type 0
IsPlain locale isolating overriding = IsAnswerBy (settings_of None isolating overriding) locale
