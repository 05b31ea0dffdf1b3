use Rattle.fluent_tidy_laws.proofs.CutTexts.{cut_texts_are_utf8, cut_texts_have_no_return}
use Rattle.fluent_tidy_laws.proofs.laws.cut_texts_are_texts.Goals as goal

pub returns-clause-utf8 : goal.returns-clause-utf8
returns-clause-utf8 c = cut_texts_are_utf8

pub returns-clause-no_return : goal.returns-clause-no_return
returns-clause-no_return c = cut_texts_have_no_return
