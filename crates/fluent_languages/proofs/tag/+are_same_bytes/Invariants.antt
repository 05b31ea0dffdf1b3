use Rattle.std.proofs.Common.{length}
use Rattle.fluent_languages.proofs.tag.+are_same_bytes.Given as goal

abbrev pub decreases-are_same_bytes : goal.decreases-are_same_bytes
decreases-are_same_bytes l = length l.a.now
