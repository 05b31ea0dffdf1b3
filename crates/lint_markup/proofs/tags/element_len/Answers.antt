use Rattle.lint_markup.proofs.Cuts.{cut_element}
use Rattle.lint_markup.proofs.tags.element_len.Goals as goal

pub returns-in-len1-up-clause-cuts : goal.returns-in-len1-up-clause-cuts
returns-in-len1-up-clause-cuts c = cut_element c.args.text.now c.name_len.result c.name_len.ensures
