-- All go down by what is left of the pattern and of the path, and by the order in which they call each other on it.
use Rattle.std.proofs.Common.{length, ◌+◌, ◌*◌}
use Rattle.fluent_project.proofs.matching.+matching.Given as goal

abbrev pub decreases-takes : goal.decreases-takes
decreases-takes l = 3 * length l.pattern.now + length l.path.now

abbrev pub decreases-takes_from : goal.decreases-takes_from
decreases-takes_from l = 3 * length l.parts.now + length l.path.now + 2

abbrev pub decreases-longest : goal.decreases-longest
decreases-longest l = 3 * length l.parts.now + length l.path.now + 1
