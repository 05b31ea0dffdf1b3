use Rattle.fluent_project.proofs.Languages.{one_stands}
use Rattle.fluent_project.proofs.laws.one_language_stands.Goals as goal

pub returns : goal.returns
returns c = one_stands
