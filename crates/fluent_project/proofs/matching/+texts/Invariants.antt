use Rattle.std.proofs.Common.{length, ◌+◌, ◌*◌}
use Rattle.fluent_project.proofs.matching.+texts.Given as goal

abbrev pub decreases-push_texts : goal.decreases-push_texts
decreases-push_texts l = 2 * length l.pattern.now

abbrev pub decreases-push_texts_from : goal.decreases-push_texts_from
decreases-push_texts_from l = 2 * length l.parts.now + 1
