use Rattle.fluent_dates.proofs.ShownPlaces.{shows_its_patterns}
use Rattle.fluent_dates.proofs.laws.patterns_are_shown.Goals as goal

pub returns : goal.returns
returns c = shows_its_patterns
