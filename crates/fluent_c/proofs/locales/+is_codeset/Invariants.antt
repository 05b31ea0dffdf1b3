-- A codeset is read to its end.
use Rattle.std.proofs.Common.{length}
use Rattle.fluent_c.proofs.locales.+is_codeset.Given as goal

abbrev pub decreases-is_codeset : goal.decreases-is_codeset
decreases-is_codeset l = length l.codeset.now
