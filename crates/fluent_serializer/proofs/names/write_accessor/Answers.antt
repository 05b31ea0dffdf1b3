use Rattle.std.proofs.Common.{sym}
use Rattle.fluent_grammar.proofs.LaidOut.{onto-nil}
use Rattle.fluent_serializer.proofs.Onto.{onto-finish}
use Rattle.fluent_serializer.proofs.names.write_accessor.Goals as goal

pub returns-in_ok-write_piece-in-Some : goal.returns-in_ok-write_piece-in-Some
returns-in_ok-write_piece-in-Some g c = rw c.in-Some.is (onto-finish _ _ _ _ _ c.in_ok-write_piece-in-Some.ensures c.write_name.ensures)

pub returns-in-None : goal.returns-in-None
returns-in-None g c = rw c.in-None.is (sym (onto-nil _))
