use Rattle.std.proofs.Common.{length}
use Rattle.fluent_project.proofs.matching.+after.Given as goal

abbrev pub decreases-after : goal.decreases-after
decreases-after l = length l.text.now
