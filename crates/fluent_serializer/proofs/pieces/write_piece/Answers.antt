use Rattle.std.proofs.Common.{rules}
use Rattle.fluent_grammar.proofs.LaidOut.{onto-sign}
use Rattle.fluent_serializer.proofs.pieces.write_piece.Goals as goal

pub returns : goal.returns
returns c = rw onto-sign (search rules)
