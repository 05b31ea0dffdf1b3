use Rattle.std.specs.Cow.{cow_str_bytes}
use Rattle.fluent_progress.proofs.Telling.{on-err}
use Rattle.fluent_resolver.proofs.Asking.{if-ok-same}
use Rattle.fluent_bundle.proofs.LentBundle.{all-told, handed-is}
use Rattle.fluent_bundle.proofs.Within.{added-once, first-once}
use Rattle.fluent_bundle.proofs.bundle.FluentBundle.resolve_pattern.Goals as goal

pub returns-clause-text : goal.returns-clause-text
returns-clause-text g c =
    if-ok-same c.hand_out.result cow_str_bytes
    (handed-is g.T.TextTransform.transformed c.args.self.now c.lent-lent.result c.lent-lent.ensures c.args.args c.args.pattern.now (cow_str_bytes c.in_ok-text.text) c.in_ok-text.ensures.text)
    c.hand_out.ensures.text

pub returns-clause-refused : goal.returns-clause-refused
returns-clause-refused g c =
    on-err c.hand_out.result (all-told g.T.TextTransform.transformed c.args.self.now c.lent-lent.result c.lent-lent.ensures c.args.args c.args.pattern.now c.args.errors.now c.answer.new.errors c.in_ok-text.ensures.told)

pub returns-in_err-text-clause-told_once : goal.returns-in_err-text-clause-told_once
returns-in_err-text-clause-told_once g c =
    first-once c.in_err-text.ensures.refused ((c.work_is_bounded.ensures.opened _).told_once _ _ _)

pub returns-clause-told_once : goal.returns-clause-told_once
returns-clause-told_once g c =
    added-once c.args.errors.now c.answer.new.errors _ c.in_ok-text.ensures.told ((c.work_is_bounded.ensures.opened _).told_once _ _ _)
