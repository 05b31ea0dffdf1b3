use Rattle.std.proofs.Common.{length}
use Rattle.fluent_project.proofs.folders.+push_front.Given as goal

abbrev pub decreases-push_front : goal.decreases-push_front
decreases-push_front l = length l.pattern.now
