use Rattle.std.proofs.Common.{length}
use Rattle.fluent_project.proofs.values.+are_tags.Given as goal

abbrev pub decreases-are_tags : goal.decreases-are_tags
decreases-are_tags l = length l.tags.now
