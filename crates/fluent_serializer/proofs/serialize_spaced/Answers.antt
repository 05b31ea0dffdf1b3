use Rattle.std.proofs.Common.{◌∙◌}
use Rattle.fluent_grammar.proofs.LaidOut.{onto-empty}
use Rattle.fluent_serializer.proofs.serialize_spaced.Goals as goal

pub returns : goal.returns
returns g c = (rw c.new-text.ensures.bytes at c.in_ok-write_spaced.ensures) ∙ onto-empty _
