use Rattle.fluent_grammar.proofs.TilesRuntime.{runtime_adds_no_junk}
use Rattle.fluent_grammar.proofs.laws.tiling.runtime_adds_no_junk.Goals as goal

pub returns : goal.returns
returns c = runtime_adds_no_junk
