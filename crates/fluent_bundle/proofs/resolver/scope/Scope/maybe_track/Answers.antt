use Rattle.std.proofs.Common.{◌∙◌}
use Rattle.fluent_meaning.proofs.Refusals.{counts-all}
use Rattle.fluent_progress.proofs.Telling.{on-err}
use Rattle.fluent_resolver.proofs.Pieces.{piece-missing, piece-refused}
use Rattle.fluent_bundle.proofs.Within.{expression-within}
use Rattle.fluent_bundle.proofs.resolver.scope.Scope.maybe_track.Goals as goal

pub returns-in_err-write_opened-clause-refused : goal.returns-in_err-write_opened-clause-refused
returns-in_err-write_opened-clause-refused g c = on-err _ (piece-missing _ c.in_err-write_opened.ensures.refused)

pub returns-in_err-write_str-clause-refused : goal.returns-in_err-write_str-clause-refused
returns-in_err-write_str-clause-refused g c =
    on-err _ (piece-refused _ c.in_ok-write_opened.ensures.wrote c.in_err-write_str.ensures.refused)

pub returns-in_err-write_opened-clause-bounded : goal.returns-in_err-write_opened-clause-bounded
returns-in_err-write_opened-clause-bounded g c =
    expression-within c.args.self.now c.write_opened.new.self g.T.TextTransform.transformed c.work_is_bounded.ensures.entered c.work_is_bounded.ensures.opened c.args.pattern.now c.args.expression.now
    c.in_err-write_opened.ensures.refused.counts

pub returns-in_err-write_str-clause-bounded : goal.returns-in_err-write_str-clause-bounded
returns-in_err-write_str-clause-bounded g c =
    expression-within c.args.self.now c.write_opened.new.self g.T.TextTransform.transformed c.work_is_bounded.ensures.entered c.work_is_bounded.ensures.opened c.args.pattern.now c.args.expression.now
    (counts-all _ c.in_ok-write_opened.ensures.wrote.state)

pub returns-clause-bounded : goal.returns-clause-bounded
returns-clause-bounded g c =
    expression-within c.args.self.now c.stay_in.new.self g.T.TextTransform.transformed c.work_is_bounded.ensures.entered c.work_is_bounded.ensures.opened c.args.pattern.now c.args.expression.now
    (counts-all _ (c.stay_in.ensures.state ∙ c.in_ok-write_opened.ensures.wrote.state))
