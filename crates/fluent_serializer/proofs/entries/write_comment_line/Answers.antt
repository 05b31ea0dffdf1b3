use Rattle.std.proofs.Common.{append-nil}
use Rattle.fluent_serializer.proofs.Onto.{onto-finish, onto-of}
use Rattle.fluent_serializer.proofs.entries.write_comment_line.Goals as goal

pub returns : goal.returns
returns c =
    onto-of (λ signs. signs) _ _ _ (append-nil _)
    (onto-finish _ _ _ _ _ c.in_ok-write_piece.ensures
    (onto-finish _ _ _ _ _ c.in_ok-write_comment_text.ensures c.write_new_line.ensures))
