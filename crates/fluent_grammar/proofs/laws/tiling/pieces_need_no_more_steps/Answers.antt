use Rattle.fluent_grammar.proofs.TilesPieces.{pieces_need_no_more_steps}
use Rattle.fluent_grammar.proofs.laws.tiling.pieces_need_no_more_steps.Goals as goal

pub returns : goal.returns
returns c = pieces_need_no_more_steps
