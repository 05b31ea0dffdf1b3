use Rattle.fluent_dates.proofs.Nearest.{none_is_nearer}
use Rattle.fluent_dates.proofs.laws.none_is_nearer.Goals as goal

pub returns : goal.returns
returns c = none_is_nearer
