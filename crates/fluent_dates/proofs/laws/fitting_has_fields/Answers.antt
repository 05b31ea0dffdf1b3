use Rattle.fluent_dates.proofs.Fitting.{fitting_has_fields}
use Rattle.fluent_dates.proofs.laws.fitting_has_fields.Goals as goal

pub returns : goal.returns
returns c = fitting_has_fields
