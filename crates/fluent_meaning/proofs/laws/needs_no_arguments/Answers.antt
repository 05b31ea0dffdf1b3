use Rattle.fluent_meaning.proofs.Unasked.{needs-no-arguments}
use Rattle.fluent_meaning.proofs.laws.needs_no_arguments.Goals as goal

pub returns : goal.returns
returns g c = needs-no-arguments
