use Rattle.std.proofs.Common.{rules}
use Rattle.fluent_lint.proofs.Severities.{found_more}
use Rattle.fluent_lint.proofs.totals.count.Goals as goal

pub loop-file-preserved : goal.loop-file-preserved
loop-file-preserved c =
    found_more c.args.counted c.args.findings.now c.loop-file.file-index c.file-item.result c.loop-file-test.true c.file-item.is
    c.loop-file.total c.count_in.result _ c.deref.result.now c.deref.ensures.value c.count_in.ensures c.loop-file.invariant (search rules)
