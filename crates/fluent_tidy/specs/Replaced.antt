-- What a program may replace its sources by, and what stays then.
use Rattle.std.specs.Prelude.{List, ◌∷◌, ◌++◌}
use Rattle.std.specs.Str.{IsUtf8}
use Rattle.fluent_grammar.specs.Words.{Text}
use Rattle.fluent_grammar.specs.Tiling.{tree}
use Rattle.fluent_tidy_laws.specs.Cut.{cut}
use Rattle.fluent_tidy_laws.specs.Joined.{joined, HasNoReturn, HaveNoReturn, AreUtf8}
use Rattle.fluent_json.specs.Json.{json}
use Rattle.fluent_tidy_laws.specs.Normal.{IsNormalText}
use Rattle.fluent_tidy_laws.specs.Shapes.{IsShaped}
use Rattle.fluent_answers.specs.AnswersLaws.{AnswerAlike}
use Rattle.fluent_tidy.specs.Trees.{IsImported}

-- Of some sources one is replaced by its cut text, by its normal text, or by what the JSON value of its tree is imported as; or
-- neighbours are replaced by their joined text. This is done as often as one likes.
pub data Replaced : List Text → List Text → Type 0 where
  as_they_were : {sources : List Text} → Replaced sources sources
  cut_one : (before behind : List Text) (source : Text) → Replaced (before ++ source ∷ behind) (before ++ cut source ∷ behind)
  normalized_one : (before behind : List Text) (source text : Text) → IsNormalText source text → Replaced (before ++ source ∷ behind) (before ++ text ∷ behind)
  imported_one : (before behind : List Text) (source text : Text) → IsImported (json (tree (cut source))) text →
      Replaced (before ++ source ∷ behind) (before ++ text ∷ behind)
  joined_some : (before behind neighbours : List Text) → HaveNoReturn neighbours → AreUtf8 neighbours →
      Replaced (before ++ (neighbours ++ behind)) (before ++ joined neighbours ∷ behind)
  step_by_step : {sources others last : List Text} → Replaced sources others → Replaced others last → Replaced sources last

-- Sources that were replaced answer as they did, to all request bytes, with all settings and plural sources.
abbrev pub ReplacedSourcesKeepAnswers : Type 0 → Type 0 → Type 0
ReplacedSourcesKeepAnswers S F = (sources others : List Text) → Replaced sources others → AnswerAlike S F sources others

-- A source whose cut text has none of the five shapes has a normal text.
abbrev pub UnshapedHasNormalText : Type 0
UnshapedHasNormalText = (source : Text) → HasNoReturn source → IsUtf8 source → (IsShaped (cut source) → ⊥) → (text : Text) × IsNormalText source text
