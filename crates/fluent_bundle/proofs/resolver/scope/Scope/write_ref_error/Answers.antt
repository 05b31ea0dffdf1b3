use Rattle.fluent_progress.proofs.Telling.{on-err}
use Rattle.fluent_resolver.proofs.Pieces.{piece-missing, piece-refused}
use Rattle.fluent_bundle.proofs.resolver.scope.Scope.write_ref_error.Goals as goal

pub returns-in_err-write_missed-clause-refused : goal.returns-in_err-write_missed-clause-refused
returns-in_err-write_missed-clause-refused g c = on-err _ (piece-missing _ c.in_err-write_missed.ensures.refused)

pub returns-in_err-write_str-clause-refused : goal.returns-in_err-write_str-clause-refused
returns-in_err-write_str-clause-refused g c =
    on-err _ (piece-refused _ c.in_ok-write_missed.ensures.wrote c.in_err-write_str.ensures.refused)
