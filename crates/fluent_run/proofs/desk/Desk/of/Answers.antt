use Rattle.std.proofs.Common.{refl}
use Rattle.fluent_run.proofs.desk.Desk.of.Goals as goal

pub returns : goal.returns
returns g c = record { ids = refl; resources = refl; settings = refl; plurals = refl; stack = refl }
