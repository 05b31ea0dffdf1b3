use Rattle.std.proofs.Common.{length}
use Rattle.ftl_project.proofs.chosen.+is_in_one.Given as goal

abbrev pub decreases-is_in_one : goal.decreases-is_in_one
decreases-is_in_one l = length l.only.now
