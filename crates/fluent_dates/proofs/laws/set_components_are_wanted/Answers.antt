use Rattle.fluent_dates.proofs.SetOptions.{set_is_wanted}
use Rattle.fluent_dates.proofs.laws.set_components_are_wanted.Goals as goal

pub returns : goal.returns
returns c = set_is_wanted
