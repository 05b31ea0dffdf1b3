use Rattle.std.proofs.Common.{length}
use Rattle.fluent_project.proofs.checks.+have_same_wildcards.Given as goal

abbrev pub decreases-have_same_wildcards : goal.decreases-have_same_wildcards
decreases-have_same_wildcards l = length l.parts.now
