use Rattle.fluent_project.proofs.Languages.{are_apart}
use Rattle.fluent_project.proofs.laws.languages_are_apart.Goals as goal

pub returns : goal.returns
returns c = are_apart
