use Rattle.std.proofs.Common.{arith, ◌∙◌}
use Rattle.fluent_serve.proofs.Exchange.{written_more, failures_kept}
use Rattle.fluent_serve.proofs.serve.write_all.Goals as goal

pub loop-rest-preserved : goal.loop-rest-preserved
loop-rest-preserved g c = record {
  sent = rw c.split_at.ensures.back (written_more c.in-Ok.count c.loop-rest.invariant.sent c.in-Ok.ensures.bytes);
  failures = c.in-Ok.ensures.failed ∙ (failures_kept _ c.loop-rest.rest.now c.in-Ok.count (omega arith) ∙ c.loop-rest.invariant.failures);
}
