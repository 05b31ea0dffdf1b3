use Rattle.fluent_value.proofs.Decided.{matches-decides}
use Rattle.fluent_value.proofs.laws.matching_decides.Goals as goal

pub returns : goal.returns
returns g c = λ plurals key value. matches-decides plurals key value
