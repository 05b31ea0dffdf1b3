use Rattle.fluent_serve.proofs.Values.{values_are_read}
use Rattle.fluent_serve.proofs.laws.values_are_read.Goals as goal

pub returns : goal.returns
returns g c = values_are_read _
