use Rattle.fluent_tidy_laws.proofs.NormalTexts.{normal_texts_are_fixed, normal_texts_keep_the_list}
use Rattle.fluent_tidy_laws.proofs.laws.normal_texts_stay.Goals as goal

pub returns-clause-fixed : goal.returns-clause-fixed
returns-clause-fixed c = normal_texts_are_fixed

pub returns-clause-same_list : goal.returns-clause-same_list
returns-clause-same_list c = normal_texts_keep_the_list
