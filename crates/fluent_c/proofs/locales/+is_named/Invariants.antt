-- A name is read to its end.
use Rattle.std.proofs.Common.{length}
use Rattle.fluent_c.proofs.locales.+is_named.Given as goal

abbrev pub decreases-is_named : goal.decreases-is_named
decreases-is_named l = length l.name.now
