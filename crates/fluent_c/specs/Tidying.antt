-- The tidy text of a source, for C.
use Rattle.std.specs.Prelude.{◌≡◌, ◌≢◌, ℕ, List, [], ◌∷◌, Option, None, Some, IsTrue, IsUtf8, map}
use Rattle.fluent_grammar.specs.Tiling.{ParserError, errors}
use Rattle.fluent_grammar.specs.Words.{Text}
use Rattle.fluent_parsed.specs.ErrorView.{error_told, error_view}
use Rattle.fluent_parsed.specs.declared.errors.ParserError.{ParserError as code}
use Rattle.fluent_tidy.specs.Sources.{holds_return}
use Rattle.fluent_tidy.specs.TidyText.{HasNoTidyText, IsTidyText, laid_anew, plain}
use Rattle.lint_findings.specs.Position.{Position, position_of}
use Rattle.fluent_c.specs.Made.{Holds}
use Rattle.fluent_c.specs.Statuses.{IsOneOf}
use Rattle.fluent_c.specs.declared.TheConstants.{FLUENT_READ, FLUENT_NOT_UTF8, FLUENT_NO_MEMORY, FLUENT_DAMAGED, FLUENT_CARRIAGE_RETURN, FLUENT_NOT_TIDY}
use Rattle.fluent_c.specs.declared.text.FluentText.{FluentText}
use Rattle.fluent_c.specs.declared.tidying.FluentPlace.{FluentPlace}

abbrev pub place_told : FluentPlace → Position
place_told place = record { line = place.line; column = place.column }

-- what the code has of errors is these
abbrev pub AreTold : List code → List ParserError → Type 0
AreTold found es = map error_view found ≡ map error_told es

-- where the first of some errors of a source is, if there is one
abbrev pub first_place : Text → List ParserError → Option Position
first_place source [] = None
first_place source (e ∷ es) = Some (position_of source e.pos_start)

-- where a source can't be read, as tidying reads it, if there is such a place: the first
abbrev pub damaged_place : Text → Option Position
damaged_place source = first_place (plain source) (errors (plain source))

-- a place that was found is that one
abbrev pub IsDamagedAt : Text → FluentPlace → Type 0
IsDamagedAt source place = damaged_place source ≡ Some (place_told place)

-- the text is the tidy text of a source, which has one
pub record HoldsTidy (source : Text) (made : FluentText) : Type 0 where
  pub tidy : IsTidyText source (laid_anew (plain source))
  pub held : Holds made (laid_anew (plain source))

-- what a call returns that tidies a source
pub record Tidies (source : Text) (status : ℕ) : Type 0 where
  pub decided : IsOneOf status (FLUENT_READ ∷ FLUENT_NOT_UTF8 ∷ FLUENT_NO_MEMORY ∷ FLUENT_DAMAGED ∷ FLUENT_CARRIAGE_RETURN
      ∷ FLUENT_NOT_TIDY ∷ [])
  pub not_utf8 : status ≡ FLUENT_NOT_UTF8 → ¬ (IsUtf8 source)
  pub utf8 : status ≢ FLUENT_NOT_UTF8 → IsUtf8 source
  pub carriage_return : status ≡ FLUENT_CARRIAGE_RETURN → IsTrue (holds_return (plain source))
  pub not_tidy : status ≡ FLUENT_NOT_TIDY → HasNoTidyText source

-- what a call returns that looks where a source is damaged: that it has a carriage return, only if it is nowhere damaged
pub record CanBeDamaged (source : Text) (status : ℕ) : Type 0 where
  pub decided : IsOneOf status (FLUENT_DAMAGED ∷ FLUENT_CARRIAGE_RETURN ∷ FLUENT_NO_MEMORY ∷ [])
  pub whole : status ≡ FLUENT_CARRIAGE_RETURN → errors (plain source) ≡ []
