use Rattle.fluent_tidy_laws.proofs.DamageStays.{damage_stays}
use Rattle.fluent_tidy_laws.proofs.laws.damage_stays.Goals as goal

pub returns : goal.returns
returns c = damage_stays
