use Rattle.std.proofs.Common.{length}
use Rattle.fluent_project.proofs.resolved.+push_lent.Given as goal

abbrev pub decreases-push_lent : goal.decreases-push_lent
decreases-push_lent l = length l.found.now
