use Rattle.fluent_grammar.proofs.TilesPieces.{parts_are_the_text}
use Rattle.fluent_grammar.proofs.laws.tiling.parts_are_the_text.Goals as goal

pub returns : goal.returns
returns c = parts_are_the_text
