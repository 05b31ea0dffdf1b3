-- How a bundle is made by options.
use Rattle.std.specs.Prelude.{◌≡◌, ◌≢◌, ℕ, zero, suc, if◌then◌else◌, List, [], ◌∷◌, Option, None, String, Vec}
use Rattle.std.specs.declared.alloc.Global.{Global}
use Rattle.fluent_answers.specs.Sources.{Settings}
use Rattle.fluent_date_tables.specs.Tables.{Row}
use Rattle.fluent_dates.specs.Lookup as dates
use Rattle.fluent_kept.specs.declared.handle.FluentBundle.{FluentBundle}
use Rattle.fluent_numerals.specs.Lookup.{locale_for}
use Rattle.fluent_c.specs.Answering.{AreUtf8, HoldsOther, plurals_in, settings_of}
use Rattle.fluent_c.specs.Bundles.{KeepsBy, KeepsWith, names_in, thread_stack}
use Rattle.fluent_c.specs.Statuses.{IsOneOf}
use Rattle.fluent_c.specs.declared.TheConstants.{FLUENT_READ, FLUENT_NOT_UTF8, FLUENT_NO_MEMORY, FLUENT_UNKNOWN_LOCALE, FLUENT_BAD_ARGUMENT, FLUENT_BUNDLE_OPTIONS_SIZE}
use Rattle.fluent_c.specs.declared.answering.FluentSource.{FluentSource}
use Rattle.fluent_c.specs.declared.options.FluentBundleOptions.{FluentBundleOptions}

-- how a bundle is asked: numbers are written as the locale writes them, unless they are to be plain
abbrev pub settings_in : FluentBundleOptions → Settings
settings_in options =
    settings_of (if options.plain_numbers then None else locale_for options.locale.now) options.isolating options.overriding

-- what dates are written by: the locale, unless numbers are to be plain
abbrev pub dates_in : FluentBundleOptions → Option Row
dates_in options = if options.plain_numbers then None else dates.locale_for options.locale.now

-- so many bytes, and those of a thread for none
abbrev pub or_thread : ℕ → ℕ
or_thread zero = thread_stack
or_thread (suc bytes) = suc bytes

-- how many bytes of the machine's stack reading and an answer may take
abbrev pub stack_in : FluentBundleOptions → ℕ
stack_in options = or_thread options.stack

-- there is a bundle of these sources, by these options, whose messages may call functions of these names, if there are any
abbrev pub KeepsNamed : Option (Vec (String Global) Global) → FluentBundleOptions → List FluentSource → FluentBundle → Type 0
KeepsNamed functions options = KeepsWith (names_in functions) (settings_in options) (dates_in options) (stack_in options) options.locale.now

-- there is a bundle of these sources, by these options
abbrev pub KeepsOptions : FluentBundleOptions → List FluentSource → FluentBundle → Type 0
KeepsOptions options = KeepsBy (settings_in options) (dates_in options) (stack_in options) options.locale.now

-- what a call returns that makes a bundle of sources by options
pub record MakesBundle (options : FluentBundleOptions) (sources : List FluentSource) (status : ℕ) : Type 0 where
  pub decided : IsOneOf status (FLUENT_READ ∷ FLUENT_NOT_UTF8 ∷ FLUENT_NO_MEMORY ∷ FLUENT_UNKNOWN_LOCALE ∷ FLUENT_BAD_ARGUMENT ∷ [])
  pub bad_size : status ≡ FLUENT_BAD_ARGUMENT → options.size ≢ FLUENT_BUNDLE_OPTIONS_SIZE
  pub size : status ≢ FLUENT_BAD_ARGUMENT → options.size ≡ FLUENT_BUNDLE_OPTIONS_SIZE
  pub not_utf8 : status ≡ FLUENT_NOT_UTF8 → HoldsOther sources
  pub utf8 : IsOneOf status (FLUENT_READ ∷ FLUENT_NO_MEMORY ∷ FLUENT_UNKNOWN_LOCALE ∷ []) → AreUtf8 sources
  pub unknown_locale : status ≡ FLUENT_UNKNOWN_LOCALE → plurals_in options.locale.now ≡ None
