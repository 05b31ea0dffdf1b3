-- Sources that were replaced answer as they did.
use Rattle.std.proofs.Common.{◌≡◌, List, ◌∷◌, ◌++◌, refl, ap, ◌∙◌, subst}
use Rattle.std.specs.Str.{IsUtf8}
use Rattle.fluent_grammar.specs.Words.{Text}
use Rattle.fluent_grammar.specs.Tiling.{tree}
use Rattle.fluent_grammar.specs.Written.{written}
use Rattle.fluent_tidy_laws.specs.Cut.{cut}
use Rattle.fluent_json.specs.Json.{json, ValueDecides}
use Rattle.fluent_tidy_laws.specs.Normal.{IsNormalText}
use Rattle.fluent_tidy_laws.specs.NormalLaws.{UnshapedIsCanonical}
use Rattle.fluent_tidy_laws.specs.Tidied as tidied
use Rattle.fluent_tidy_laws.specs.Tidied.{Tidied}
use Rattle.fluent_answers.specs.AnswersLaws.{TidiedSourcesKeepAnswers}
use Rattle.fluent_tidy.specs.Trees.{IsImported}
use Rattle.fluent_tidy.specs.DeskLaws.{ExportsAreImported}
use Rattle.fluent_tidy.specs.Replaced.{Replaced, as_they_were, cut_one, normalized_one, imported_one, joined_some, step_by_step, ReplacedSourcesKeepAnswers, UnshapedHasNormalText}

-- an import of a source's tree is the source's normal text, so each step is one of tidying
as_tidied : ExportsAreImported → {sources others : List Text} → Replaced sources others → Tidied sources others
as_tidied imports as_they_were = tidied.as_they_were
as_tidied imports (cut_one before behind source) = tidied.cut_one before behind source
as_tidied imports (normalized_one before behind source text n) = tidied.normalized_one before behind source text n
as_tidied imports (imported_one before behind source text i) = tidied.normalized_one before behind source text (((imports source).text text).0 i)
as_tidied imports (joined_some before behind neighbours h u) = tidied.joined_some before behind neighbours h u
as_tidied imports (step_by_step one more) = tidied.step_by_step (as_tidied imports one) (as_tidied imports more)

pub replaced_sources_keep_answers : (S F : Type 0) → ExportsAreImported → TidiedSourcesKeepAnswers S F → ReplacedSourcesKeepAnswers S F
replaced_sources_keep_answers S F imports keep sources others steps = keep sources others (as_tidied imports steps)

pub unshaped_has_normal_text : UnshapedIsCanonical → UnshapedHasNormalText
unshaped_has_normal_text canonical source none utf8 unshaped = (written (tree (cut source)), record { canonical = canonical source none utf8 unshaped; is = refl })
