use Rattle.fluent_tidy_laws.proofs.NormalTexts.{unshaped_is_canonical, no_normal_text_means_shaped}
use Rattle.fluent_tidy_laws.proofs.laws.reading_is_unique.Goals as goal

pub returns-clause-unshaped : goal.returns-clause-unshaped
returns-clause-unshaped c = unshaped_is_canonical

pub returns-clause-shaped : goal.returns-clause-shaped
returns-clause-shaped c = no_normal_text_means_shaped
