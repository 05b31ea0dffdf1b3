use Rattle.std.proofs.Common.{length}
use Rattle.fluent_project.proofs.normal.+goes_up.Given as goal

abbrev pub decreases-goes_up : goal.decreases-goes_up
decreases-goes_up l = length l.path.now
