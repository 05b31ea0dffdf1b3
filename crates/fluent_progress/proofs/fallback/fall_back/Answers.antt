use Rattle.std.proofs.Common.{rules}
use Rattle.fluent_progress.proofs.Telling.{faulty-tells}
use Rattle.fluent_progress.proofs.fallback.fall_back.Goals as goal

pub returns-clause-refused : goal.returns-clause-refused
returns-clause-refused c = let told = c.in_ok-add_error.ensures.told in search (faulty-tells, rules)
