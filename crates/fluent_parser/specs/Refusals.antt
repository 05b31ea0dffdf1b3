-- Why nothing is read at places of a source.
use Rattle.std.specs.Prelude.{◌≡◌, All, ℕ, ◌+◌, ◌-◌, List, length, map, drop, Option, Some, None, option_map, if◌then◌else◌}
use Rattle.std.specs.List.{filter_map}
use Rattle.std.specs.Option.{option_or}
use Rattle.std.specs.Str.{IsCharBoundary}
use Rattle.fluent_grammar.specs.Words.{Text, begins_with, dot, skip_spaces}
use Rattle.fluent_grammar.specs.Refusal.{Reading, got, refused}
use Rattle.fluent_grammar.specs.Refusal as grammar
use Rattle.fluent_grammar.specs.Reading.{attribute_at, entry_at}
use Rattle.fluent_parsed.specs.ErrorView.{KindView, kind_view, told}
use Rattle.fluent_parser.specs.declared.refusals.Refusal.{Refusal}

-- the refusal of a reading, if it is refused
abbrev pub refusal_of : {A : Type 0} → Reading A → Option grammar.Refusal
refusal_of (got a rest) = None
refusal_of (refused refusal) = Some refusal

-- why the attribute at the front of a text isn't read, if it begins with spaces and a dot
abbrev pub attribute_refusal : Text → Option grammar.Refusal
attribute_refusal s = if begins_with dot (skip_spaces s) then refusal_of (attribute_at s) else None

-- Why nothing is read at the front of a text: that of the attribute there, or else that of the entry.
abbrev pub first_refusal : Text → Option grammar.Refusal
first_refusal s = option_or (attribute_refusal s) (refusal_of (entry_at s))

-- a refusal: where reading began, and where it stopped, with the source from there on, and what was wrong
pub record RefusalView : Type 0 where
  pub start : ℕ
  pub place : ℕ
  pub at : Text
  pub kind : KindView

-- of this source
abbrev pub refusal_view : Text → Refusal → RefusalView
refusal_view source r = record { start = r.start; place = r.place; at = drop r.place source; kind = kind_view r.kind }

-- what tells of a refusal in a text that begins at this offset
abbrev pub refusal_told : ℕ → Text → grammar.Refusal → RefusalView
refusal_told start s refusal = record { start = start; place = start + (length s - length refusal.at); at = refusal.at; kind = told refusal.kind }

-- the refusal at an offset of a source
abbrev pub refusal_from : Text → ℕ → Option RefusalView
refusal_from source start = option_map (refusal_told start (drop start source)) (first_refusal (drop start source))

-- those at some offsets, where nothing is read
abbrev pub refusals_from : Text → List ℕ → List RefusalView
refusals_from source starts = filter_map (refusal_from source) starts

-- these are all of them
abbrev pub AreRefusalsFrom : Text → List ℕ → List Refusal → Type 0
AreRefusalsFrom source starts found = map (refusal_view source) found ≡ refusals_from source starts

-- where reading began and where it stopped, a character of the source begins, or the source ends
pub record IsBetweenCharacters (source : Text) (r : Refusal) : Type 0 where
  pub start : IsCharBoundary source r.start
  pub place : IsCharBoundary source r.place

abbrev pub AreBetweenCharacters : Text → List Refusal → Type 0
AreBetweenCharacters source refusals = All (IsBetweenCharacters source) refusals

-- the same of a refusal, if there is one
abbrev pub IfAnyBetweenCharacters : Text → Option Refusal → Type 0
IfAnyBetweenCharacters source None = Unit {0}
IfAnyBetweenCharacters source (Some r) = IsBetweenCharacters source r
