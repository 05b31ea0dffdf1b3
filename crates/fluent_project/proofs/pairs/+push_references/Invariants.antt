use Rattle.std.proofs.Common.{length}
use Rattle.fluent_project.proofs.pairs.+push_references.Given as goal

abbrev pub decreases-push_references : goal.decreases-push_references
decreases-push_references l = length l.files.now
