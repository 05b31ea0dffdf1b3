use Rattle.fluent_serializer.proofs.Onto.{onto-finish}
use Rattle.fluent_serializer.proofs.entries.write_free_comment.Goals as goal

pub returns : goal.returns
returns g c =
    onto-finish _ _ _ _ _ c.in_ok-write_gap.ensures
    (onto-finish _ _ _ _ _ c.in_ok-write_comment.ensures c.write_new_line.ensures)
