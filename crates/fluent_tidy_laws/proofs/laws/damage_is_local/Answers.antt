use Rattle.fluent_tidy_laws.proofs.Slices.{cut_keeps_parts, damage_is_local}
use Rattle.fluent_tidy_laws.proofs.laws.damage_is_local.Goals as goal

pub returns-clause-local : goal.returns-clause-local
returns-clause-local c = damage_is_local

pub returns-clause-parts : goal.returns-clause-parts
returns-clause-parts c = cut_keeps_parts
