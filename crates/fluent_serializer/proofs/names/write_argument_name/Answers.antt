use Rattle.fluent_serializer.proofs.Onto.{onto-finish}
use Rattle.fluent_serializer.proofs.names.write_argument_name.Goals as goal

pub returns : goal.returns
returns g c =
    onto-finish _ _ _ _ _ c.in_ok-write_separator.ensures
    (onto-finish _ _ _ _ _ c.in_ok-write_name.ensures c.write_piece.ensures)
