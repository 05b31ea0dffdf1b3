use Rattle.fluent_serializer.proofs.Onto.{onto-finish}
use Rattle.fluent_serializer.proofs.names.write_variant_head.Goals as goal

pub returns : goal.returns
returns g c =
    let below = c.in_ok-below.ensures in
    onto-finish _ _ _ _ _ c.in_ok-write_new_line.ensures
    (onto-finish _ _ _ _ _ c.in_ok-write_mark.ensures
    (onto-finish _ _ _ _ _ (rw below at c.in_ok-write_piece.ensures)
    (onto-finish _ _ _ _ _ (rw below at c.in_ok-write_key.ensures)
    (rw below at c.write_piece-2.ensures))))
