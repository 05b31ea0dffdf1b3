use Rattle.std.proofs.Common.{length}
use Rattle.fluent_project.proofs.normal.+walk.Given as goal

abbrev pub decreases-walk : goal.decreases-walk
decreases-walk l = length l.names.now
