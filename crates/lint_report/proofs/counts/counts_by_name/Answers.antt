use Rattle.std.proofs.Common.{string_bytes, unwrap_or}
use Rattle.std.specs.HashMap.{get_by_text}
use Rattle.lint_report.proofs.Counting.{counted_next}
use Rattle.lint_report.proofs.counts.counts_by_name.Goals as goal

pub loop-file-preserved : goal.loop-file-preserved
loop-file-preserved c = λ q.
    counted_next q c.args.code.now c.args.findings.now c.loop-file.file-index c.file-item.result c.loop-file-test.true c.file-item.is
    (unwrap_or (get_by_text c.loop-file.counts q) 0) (unwrap_or (get_by_text c.add.new.counts q) 0) c.count_of.result
    (string_bytes c.in_ok-name.name) c.deref.result.now c.in_ok-name.ensures.ok c.count_of.ensures c.deref.ensures.value
    (c.loop-file.invariant q) (c.in_ok-add.ensures q)
