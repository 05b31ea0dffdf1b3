use Rattle.fluent_meaning.proofs.EqualEnvironments.{equal-environments}
use Rattle.fluent_meaning.proofs.laws.equal_environments.Goals as goal

pub returns : goal.returns
returns g c = equal-environments
