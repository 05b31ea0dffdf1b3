use Rattle.std.proofs.Common.{length}
use Rattle.fluent_project.proofs.relative.+push_seen.Given as goal

abbrev pub decreases-push_seen : goal.decreases-push_seen
decreases-push_seen l = length l.turns.now
