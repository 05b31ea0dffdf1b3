use Rattle.std.proofs.Common.{length}
use Rattle.fluent_project.proofs.pairs.Tree.+add_alone.Given as goal

abbrev pub decreases-add_alone : goal.decreases-add_alone
decreases-add_alone l = length l.rules.now
