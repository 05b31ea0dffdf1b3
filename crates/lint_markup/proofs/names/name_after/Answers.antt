use Rattle.std.proofs.Common.{sym}
use Rattle.lint_markup.proofs.TagSteps.{without_naming}
use Rattle.lint_markup.proofs.names.name_after.Goals as goal

pub returns-in-None : goal.returns-in-None
returns-in-None c = sym (without_naming c.args.text.now c.in-None.ensures.cases)
