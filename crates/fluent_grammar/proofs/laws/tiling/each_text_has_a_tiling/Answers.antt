use Rattle.fluent_grammar.proofs.TilesPieces.{each_text_has_a_tiling}
use Rattle.fluent_grammar.proofs.laws.tiling.each_text_has_a_tiling.Goals as goal

pub returns : goal.returns
returns c = each_text_has_a_tiling
