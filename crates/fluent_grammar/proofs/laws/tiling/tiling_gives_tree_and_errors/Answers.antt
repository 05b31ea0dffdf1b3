use Rattle.fluent_grammar.proofs.TilesPieces.{tiling_gives_tree_and_errors}
use Rattle.fluent_grammar.proofs.laws.tiling.tiling_gives_tree_and_errors.Goals as goal

pub returns : goal.returns
returns c = tiling_gives_tree_and_errors
