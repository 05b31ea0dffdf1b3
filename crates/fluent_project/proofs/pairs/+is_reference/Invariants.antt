use Rattle.std.proofs.Common.{length}
use Rattle.fluent_project.proofs.pairs.+is_reference.Given as goal

abbrev pub decreases-is_reference : goal.decreases-is_reference
decreases-is_reference l = length l.rules.now
