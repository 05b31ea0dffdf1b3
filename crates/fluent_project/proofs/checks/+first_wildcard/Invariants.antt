use Rattle.std.proofs.Common.{length}
use Rattle.fluent_project.proofs.checks.+first_wildcard.Given as goal

abbrev pub decreases-first_wildcard : goal.decreases-first_wildcard
decreases-first_wildcard l = length l.parts.now
