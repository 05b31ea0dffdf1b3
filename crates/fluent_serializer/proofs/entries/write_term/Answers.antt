use Rattle.fluent_grammar.proofs.LaidOut.{onto-then}
use Rattle.fluent_serializer.proofs.Onto.{onto-finish}
use Rattle.fluent_serializer.proofs.entries.write_term.Goals as goal

pub returns : goal.returns
returns g c =
    let id = rw c.as_str.ensures at c.in_ok-write_piece-2.ensures in
    let attributes = rw c.deref.ensures.value at c.in_ok-write_attributes.ensures in
    onto-finish _ _ _ _ _ c.in_ok-write_own_comment.ensures
    (onto-finish _ _ _ _ _ (onto-then _ _ _ c.in_ok-write_piece.ensures (onto-then _ _ _ id (onto-then _ _ _ c.in_ok-write_piece-3.ensures c.in_ok-write_pattern.ensures)))
    (onto-finish _ _ _ _ _ attributes c.write_new_line.ensures))
