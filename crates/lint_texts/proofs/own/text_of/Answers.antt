use Rattle.std.proofs.Common.{◌∙◌, ap}
use Rattle.lint_texts.specs.Beside.{first_text}
use Rattle.lint_texts.proofs.own.text_of.Goals as goal

pub returns : goal.returns
returns c = c.first_text.ensures ∙ ap first_text c.requires.mine
