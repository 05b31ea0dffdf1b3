use Rattle.std.proofs.Common.{length}
use Rattle.fluent_project.proofs.normal.+push_names.Given as goal

abbrev pub decreases-push_names : goal.decreases-push_names
decreases-push_names l = length l.parts.now
