use Rattle.fluent_project.proofs.Languages.{carried_over}
use Rattle.fluent_project.proofs.laws.texts_carry_over.Goals as goal

pub returns : goal.returns
returns c = carried_over
