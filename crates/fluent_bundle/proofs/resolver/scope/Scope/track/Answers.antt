use Rattle.fluent_meaning.proofs.Refusals.{counts-all}
use Rattle.fluent_progress.proofs.Telling.{on-err}
use Rattle.fluent_resolver.proofs.Pieces.{piece-missing, piece-refused}
use Rattle.fluent_bundle.proofs.Within.{reference-within}
use Rattle.fluent_bundle.proofs.resolver.scope.Scope.track.Goals as goal

pub returns-in_err-write_referred-clause-refused : goal.returns-in_err-write_referred-clause-refused
returns-in_err-write_referred-clause-refused g c = on-err _ (piece-missing _ c.in_err-write_referred.ensures.refused)

pub returns-in_err-write_str-clause-refused : goal.returns-in_err-write_str-clause-refused
returns-in_err-write_str-clause-refused g c =
    on-err _ (piece-refused _ c.in_ok-write_referred.ensures.wrote c.in_err-write_str.ensures.refused)

pub returns-in_err-write_referred-clause-bounded : goal.returns-in_err-write_referred-clause-bounded
returns-in_err-write_referred-clause-bounded g c =
    reference-within c.args.self.now c.write_referred.new.self g.T.TextTransform.transformed c.work_is_bounded.ensures.entered c.work_is_bounded.ensures.opened c.args.inline.now c.args.pattern.now
    c.in_err-write_referred.ensures.refused.counts

pub returns-in_err-write_str-clause-bounded : goal.returns-in_err-write_str-clause-bounded
returns-in_err-write_str-clause-bounded g c =
    reference-within c.args.self.now c.write_referred.new.self g.T.TextTransform.transformed c.work_is_bounded.ensures.entered c.work_is_bounded.ensures.opened c.args.inline.now c.args.pattern.now
    (counts-all _ c.in_ok-write_referred.ensures.wrote.state)

pub returns-clause-bounded : goal.returns-clause-bounded
returns-clause-bounded g c =
    reference-within c.args.self.now c.write_referred.new.self g.T.TextTransform.transformed c.work_is_bounded.ensures.entered c.work_is_bounded.ensures.opened c.args.inline.now c.args.pattern.now
    (counts-all _ c.in_ok-write_referred.ensures.wrote.state)
