use Rattle.std.proofs.Common.{length}
use Rattle.fluent_project.proofs.normal.+name_len.Given as goal

abbrev pub decreases-name_len : goal.decreases-name_len
decreases-name_len l = length l.parts.now
