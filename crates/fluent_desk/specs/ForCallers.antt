-- The words that callers name, from the crates below: what a source says, what tidying makes of it, and what it answers.
pub use Rattle.fluent_grammar.specs.Tiling.{tree, errors, list, listed}
pub use Rattle.fluent_grammar.specs.Written.{written}
pub use Rattle.fluent_tidy_laws.specs.Cut.{cut}
pub use Rattle.fluent_tidy_laws.specs.Normal.{IsCanonical, IsNormalText, HasNoNormalText}
pub use Rattle.fluent_tidy_laws.specs.Tidied.{Tidied, as_they_were, cut_one, normalized_one, joined_some, step_by_step}
pub use Rattle.fluent_answers.specs.AnswersLaws.{AnswerAlike}
pub use Rattle.fluent_run.specs.RunView.{answers_of, answers_by, line_by, settings_view, no_text}
pub use Rattle.fluent_tidy.specs.Sources.{holds_return}
pub use Rattle.fluent_tidy.specs.Trees.{IsImported, IsNotImported, IsReadAs}
