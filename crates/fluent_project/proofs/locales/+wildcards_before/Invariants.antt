use Rattle.std.proofs.Common.{length}
use Rattle.fluent_project.proofs.locales.+wildcards_before.Given as goal

abbrev pub decreases-wildcards_before : goal.decreases-wildcards_before
decreases-wildcards_before l = length l.pattern.now
