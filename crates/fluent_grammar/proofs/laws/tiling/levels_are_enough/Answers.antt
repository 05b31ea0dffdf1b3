use Rattle.fluent_grammar.proofs.Depth.{levels_are_enough}
use Rattle.fluent_grammar.proofs.laws.tiling.levels_are_enough.Goals as goal

pub returns : goal.returns
returns c = levels_are_enough
