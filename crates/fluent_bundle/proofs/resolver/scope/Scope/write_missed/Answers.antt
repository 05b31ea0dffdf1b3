use Rattle.std.proofs.Common.{refl}
use Rattle.fluent_progress.proofs.Telling.{on-err, tells-same}
use Rattle.fluent_bundle.proofs.resolver.scope.Scope.write_missed.Goals as goal

pub returns-in_err-kind-clause-refused : goal.returns-in_err-kind-clause-refused
returns-in_err-kind-clause-refused g c = on-err _ (tells-same _ refl)

pub returns-in-None-clause-refused : goal.returns-in-None-clause-refused
returns-in-None-clause-refused g c = on-err _ (tells-same _ refl)
