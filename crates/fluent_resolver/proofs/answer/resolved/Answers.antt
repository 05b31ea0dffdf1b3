use Rattle.std.proofs.Common.{◌∙◌}
use Rattle.fluent_progress.proofs.Counting.{open-is-past}
use Rattle.fluent_resolver.proofs.Depth.{nests}
use Rattle.fluent_resolver.proofs.answer.resolved.Goals as goal

pub returns-in-Err-clause-deep : goal.returns-in-Err-clause-deep
returns-in-Err-clause-deep g c =
    nests c.args.budget.bytes c.within-progress.ensures.stack c.within-progress.ensures.path (open-is-past c.write_pattern-written.new.progress.stack ∙ c.if-is_past.true) c.in-Err.ensures.deep
