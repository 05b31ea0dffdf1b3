-- Laws of tidy texts, as statements.
use Rattle.std.specs.Prelude.{◌≡◌, List, ◌∷◌, ◌++◌}
use Rattle.fluent_grammar.specs.Words.{Text}
use Rattle.fluent_grammar.specs.Tiling.{tree, list}
use Rattle.fluent_answers.specs.AnswersLaws.{AnswerAlike}
use Rattle.fluent_tidy.specs.TidyText.{IsTidyText, plain}

-- A tidy text has the messages, the terms and the comments of the source, as it is read without a mark and with LF.
pub record KeepsEntries (source text : Text) : Type 0 where
  pub entries : tree text ≡ tree (plain source)
  pub same_list : list text ≡ list (plain source)

abbrev pub TidyTextsKeepEntries : Type 0
TidyTextsKeepEntries = (source text : Text) → IsTidyText source text → KeepsEntries source text

-- A tidy text is its own tidy text, and a source has no other.
pub record IsFixed (source text : Text) : Type 0 where
  pub own : IsTidyText text text
  pub alone : (other : Text) → IsTidyText source other → other ≡ text

abbrev pub TidyTextsAreFixed : Type 0
TidyTextsAreFixed = (source text : Text) → IsTidyText source text → IsFixed source text

-- Sources answer as they did, to all request bytes and with all settings and plural sources, if one of them is replaced by its tidy text.
abbrev pub TidyTextsKeepAnswers : Type 0 → Type 0 → Type 0
TidyTextsKeepAnswers S F =
    (before behind : List Text) (source text : Text) → IsTidyText source text → AnswerAlike S F (before ++ plain source ∷ behind) (before ++ text ∷ behind)
