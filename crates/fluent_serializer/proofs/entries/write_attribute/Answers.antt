use Rattle.std.proofs.Common.{append-nil}
use Rattle.fluent_serializer.proofs.Onto.{onto-finish, onto-of}
use Rattle.fluent_serializer.proofs.entries.write_attribute.Goals as goal

pub returns : goal.returns
returns g c =
    onto-of (λ signs. signs) _ _ _ (append-nil _)
    (onto-finish _ _ _ _ _ c.in_ok-write_new_line.ensures
    (onto-finish _ _ _ _ _ c.in_ok-write_piece.ensures
    (onto-finish _ _ _ _ _ (rw c.as_str.ensures at c.in_ok-write_piece-2.ensures)
    (onto-finish _ _ _ _ _ c.in_ok-write_piece-3.ensures c.write_pattern.ensures))))
