use Rattle.fluent_grammar.proofs.TilesPieces.{no_text_has_two_tilings}
use Rattle.fluent_grammar.proofs.laws.tiling.no_text_has_two_tilings.Goals as goal

pub returns : goal.returns
returns c = no_text_has_two_tilings
