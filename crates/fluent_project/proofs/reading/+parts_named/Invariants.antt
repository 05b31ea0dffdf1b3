use Rattle.std.proofs.Common.{length}
use Rattle.fluent_project.proofs.reading.+parts_named.Given as goal

abbrev pub decreases-parts_named : goal.decreases-parts_named
decreases-parts_named l = length l.variables.now
