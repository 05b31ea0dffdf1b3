-- Sources that were tidied.
use Rattle.std.specs.Prelude.{List, ◌∷◌, ◌++◌}
use Rattle.fluent_grammar.specs.Words.{Text}
use Rattle.fluent_tidy_laws.specs.Cut.{cut}
use Rattle.fluent_tidy_laws.specs.Joined.{joined, HaveNoReturn, AreUtf8}
use Rattle.fluent_tidy_laws.specs.Normal.{IsNormalText}

-- Of some sources one is replaced by its cut text or by its normal text, or neighbours by their joined text, as often as one likes.
pub data Tidied : List Text → List Text → Type 0 where
  as_they_were : {sources : List Text} → Tidied sources sources
  cut_one : (before behind : List Text) (source : Text) → Tidied (before ++ source ∷ behind) (before ++ cut source ∷ behind)
  normalized_one : (before behind : List Text) (source text : Text) → IsNormalText source text → Tidied (before ++ source ∷ behind) (before ++ text ∷ behind)
  joined_some : (before behind neighbours : List Text) → HaveNoReturn neighbours → AreUtf8 neighbours →
      Tidied (before ++ (neighbours ++ behind)) (before ++ joined neighbours ∷ behind)
  step_by_step : {sources others last : List Text} → Tidied sources others → Tidied others last → Tidied sources last
