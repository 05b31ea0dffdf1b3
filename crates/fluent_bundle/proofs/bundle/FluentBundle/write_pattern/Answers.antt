use Rattle.fluent_bundle.proofs.Within.{told-once}
use Rattle.fluent_bundle.proofs.bundle.FluentBundle.write_pattern.Goals as goal

pub returns-clause-told_once : goal.returns-clause-told_once
returns-clause-told_once g c =
    told-once c.write_answer.result c.args.errors.now c.write_answer.new.errors _ c.write_answer.ensures.told c.write_answer.ensures.told_first ((c.work_is_bounded.ensures.opened _).told_once _ _ _)
