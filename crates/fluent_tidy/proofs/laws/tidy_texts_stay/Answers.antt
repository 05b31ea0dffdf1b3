use Rattle.fluent_tidy.proofs.TidyTexts.{tidy_texts_are_fixed, tidy_texts_keep_answers, tidy_texts_keep_entries}
use Rattle.fluent_tidy.proofs.laws.tidy_texts_stay.Goals as goal

pub returns-clause-entries : goal.returns-clause-entries
returns-clause-entries g c = tidy_texts_keep_entries

pub returns-clause-fixed : goal.returns-clause-fixed
returns-clause-fixed g c = tidy_texts_are_fixed

pub returns-clause-answers : goal.returns-clause-answers
returns-clause-answers g c = tidy_texts_keep_answers _ _ c.lists_decide.ensures
