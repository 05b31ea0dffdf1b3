-- Which numbers a call returns, and what each of them says.
use Rattle.std.specs.Prelude.{◌≡◌, ◌≢◌, ℕ, true, List, [], ◌∷◌, None, IsSome, IsTrue, IsUtf8, nat_eq}
use Rattle.std.specs.List.{list_any}
use Rattle.fluent_grammar.specs.Words.{Text}
use Rattle.fluent_kept.specs.declared.handle.FluentBundle.{FluentBundle}
use Rattle.fluent_c.specs.Answering.{AreUtf8, HoldsOther, plurals_in}
use Rattle.fluent_c.specs.Arguments.{AreTaken, HoldsBad}
use Rattle.fluent_c.specs.Bundles.{AreNames, HasNoMessage, HasNoPattern, HasOther, KeepsNone, pattern_in}
use Rattle.fluent_c.specs.Languages.{strategy_of}
use Rattle.fluent_c.specs.declared.TheConstants.{FLUENT_READ, FLUENT_NOT_UTF8, FLUENT_NO_MEMORY, FLUENT_UNKNOWN_LOCALE, FLUENT_NO_MESSAGE, FLUENT_NO_PATTERN, FLUENT_BAD_ARGUMENT, FLUENT_NO_BUNDLE}
use Rattle.fluent_c.specs.declared.answering.FluentSource.{FluentSource}
use Rattle.fluent_kept.specs.declared.given.FluentArgument.{FluentArgument}

-- the number is one of these
abbrev pub IsOneOf : ℕ → List ℕ → Type 0
IsOneOf n numbers = IsTrue (list_any (nat_eq n) numbers)

-- what a call returns that reads one source
pub record ReadsSource (text : Text) (status : ℕ) : Type 0 where
  pub decided : IsOneOf status (FLUENT_READ ∷ FLUENT_NOT_UTF8 ∷ FLUENT_NO_MEMORY ∷ [])
  pub not_utf8 : status ≡ FLUENT_NOT_UTF8 → ¬ (IsUtf8 text)
  pub utf8 : status ≢ FLUENT_NOT_UTF8 → IsUtf8 text

-- what a call returns that reads sources, for a locale
pub record ReadsSources (sources : List FluentSource) (locale : Text) (status : ℕ) : Type 0 where
  pub decided : IsOneOf status (FLUENT_READ ∷ FLUENT_NOT_UTF8 ∷ FLUENT_NO_MEMORY ∷ FLUENT_UNKNOWN_LOCALE ∷ [])
  pub not_utf8 : status ≡ FLUENT_NOT_UTF8 → HoldsOther sources
  pub utf8 : status ≢ FLUENT_NOT_UTF8 → AreUtf8 sources
  pub unknown_locale : status ≡ FLUENT_UNKNOWN_LOCALE → plurals_in locale ≡ None

-- what a call returns that formats a message of a bundle
pub record Formats (bundle : FluentBundle) (id attribute : Text) (arguments : List FluentArgument) (status : ℕ) : Type 0 where
  pub decided : IsOneOf status (FLUENT_READ ∷ FLUENT_NOT_UTF8 ∷ FLUENT_NO_MEMORY ∷ FLUENT_NO_MESSAGE ∷ FLUENT_NO_PATTERN
      ∷ FLUENT_BAD_ARGUMENT ∷ FLUENT_NO_BUNDLE ∷ [])
  pub not_utf8 : status ≡ FLUENT_NOT_UTF8 → HasOther id attribute arguments
  pub no_message : status ≡ FLUENT_NO_MESSAGE → HasNoMessage bundle id
  pub no_pattern : status ≡ FLUENT_NO_PATTERN → HasNoPattern bundle id attribute
  pub bad_argument : status ≡ FLUENT_BAD_ARGUMENT → HoldsBad arguments
  pub no_bundle : status ≡ FLUENT_NO_BUNDLE → KeepsNone bundle
  pub names : status ≢ FLUENT_NOT_UTF8 → AreNames id attribute
  pub taken : IsOneOf status (FLUENT_READ ∷ FLUENT_NO_MESSAGE ∷ FLUENT_NO_PATTERN ∷ FLUENT_NO_BUNDLE ∷ []) → AreTaken arguments
  pub held : IsOneOf status (FLUENT_READ ∷ FLUENT_NO_MESSAGE ∷ FLUENT_NO_PATTERN ∷ []) → bundle.held ≡ true

-- what a call returns that looks for a message's value or attribute
pub record LooksFor (bundle : FluentBundle) (id attribute : Text) (status : ℕ) : Type 0 where
  pub decided : IsOneOf status (FLUENT_READ ∷ FLUENT_NOT_UTF8 ∷ FLUENT_NO_MESSAGE ∷ FLUENT_NO_PATTERN ∷ FLUENT_NO_BUNDLE ∷ [])
  pub found : status ≡ FLUENT_READ → IsSome (pattern_in bundle id attribute)
  pub not_utf8 : status ≡ FLUENT_NOT_UTF8 → ¬ (AreNames id attribute)
  pub no_message : status ≡ FLUENT_NO_MESSAGE → HasNoMessage bundle id
  pub no_pattern : status ≡ FLUENT_NO_PATTERN → HasNoPattern bundle id attribute
  pub no_bundle : status ≡ FLUENT_NO_BUNDLE → KeepsNone bundle
  pub names : status ≢ FLUENT_NOT_UTF8 → AreNames id attribute
  pub held : IsOneOf status (FLUENT_READ ∷ FLUENT_NO_MESSAGE ∷ FLUENT_NO_PATTERN ∷ []) → bundle.held ≡ true

-- what a call returns that finds languages by the strategy of a number
pub record Negotiates (number status : ℕ) : Type 0 where
  pub decided : IsOneOf status (FLUENT_READ ∷ FLUENT_NO_MEMORY ∷ FLUENT_BAD_ARGUMENT ∷ [])
  pub bad_strategy : status ≡ FLUENT_BAD_ARGUMENT → strategy_of number ≡ None
  pub strategy : status ≢ FLUENT_BAD_ARGUMENT → IsSome (strategy_of number)
