use Rattle.std.proofs.Common.{length}
use Rattle.fluent_project.proofs.folders.+slash_at.Given as goal

abbrev pub decreases-slash_at : goal.decreases-slash_at
decreases-slash_at l = length l.path.now
