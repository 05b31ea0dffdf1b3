use Rattle.std.proofs.Common.{length}
use Rattle.fluent_project.proofs.values.+tag_on.Given as goal

abbrev pub decreases-tag_on : goal.decreases-tag_on
decreases-tag_on l = length l.text.now
