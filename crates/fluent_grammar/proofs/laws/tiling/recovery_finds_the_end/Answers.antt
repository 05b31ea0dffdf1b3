use Rattle.fluent_grammar.proofs.TilesRecovery.{recovery_finds_the_end}
use Rattle.fluent_grammar.proofs.laws.tiling.recovery_finds_the_end.Goals as goal

pub returns : goal.returns
returns c = recovery_finds_the_end
