use Rattle.fluent_grammar.proofs.TilesErrors.{junk_is_sliced}
use Rattle.fluent_grammar.proofs.laws.tiling.junk_is_sliced.Goals as goal

pub returns : goal.returns
returns c = junk_is_sliced
