use Rattle.fluent_grammar.proofs.TilesRuntime.{runtime_has_the_same_list}
use Rattle.fluent_grammar.proofs.laws.tiling.runtime_has_the_same_list.Goals as goal

pub returns : goal.returns
returns c = runtime_has_the_same_list
