use Rattle.std.proofs.Common.{length}
use Rattle.fluent_languages.proofs.tag.+are_same_folded.Given as goal

abbrev pub decreases-are_same_folded : goal.decreases-are_same_folded
decreases-are_same_folded l = length l.a.now
