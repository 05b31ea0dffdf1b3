use Rattle.std.proofs.Common.{rules}
use Rattle.fluent_progress.proofs.Telling.{tells-same}
use Rattle.fluent_progress.proofs.place.Surroundings.variable_value.Goals as goal

pub returns-in_err-value-clause-refused : goal.returns-in_err-value-clause-refused
returns-in_err-value-clause-refused g c = search (tells-same, rules)

pub returns-in_err-tell_missing-in-None-clause-refused : goal.returns-in_err-tell_missing-in-None-clause-refused
returns-in_err-tell_missing-in-None-clause-refused g c = let same = c.in_err-tell_missing-in-None.ensures.refused in search (tells-same, rules)
