use Rattle.std.proofs.Common.{length}
use Rattle.fluent_project.proofs.pairs.+is_translation.Given as goal

abbrev pub decreases-is_translation : goal.decreases-is_translation
decreases-is_translation l = length l.rules.now
