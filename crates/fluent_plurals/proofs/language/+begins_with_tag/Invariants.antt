use Rattle.std.proofs.Common.{length}
use Rattle.fluent_plurals.proofs.language.+begins_with_tag.Given as goal

abbrev pub decreases-begins_with_tag : goal.decreases-begins_with_tag
decreases-begins_with_tag l = length l.tag.now
