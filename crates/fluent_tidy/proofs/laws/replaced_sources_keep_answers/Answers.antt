use Rattle.fluent_tidy.proofs.Replacing.{replaced_sources_keep_answers, unshaped_has_normal_text}
use Rattle.fluent_tidy.proofs.laws.replaced_sources_keep_answers.Goals as goal

pub returns-clause-answers : goal.returns-clause-answers
returns-clause-answers g c = replaced_sources_keep_answers _ _ c.exports_are_imported.ensures c.tidied_sources_keep_answers.ensures

pub returns-clause-normal : goal.returns-clause-normal
returns-clause-normal g c = unshaped_has_normal_text c.reading_is_unique.ensures.unshaped
