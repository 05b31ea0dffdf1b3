use Rattle.fluent_grammar.proofs.TilesErrors.{slices_ascend}
use Rattle.fluent_grammar.proofs.laws.tiling.slices_ascend.Goals as goal

pub returns : goal.returns
returns c = slices_ascend
