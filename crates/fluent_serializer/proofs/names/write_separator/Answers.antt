use Rattle.std.proofs.Common.{sym}
use Rattle.fluent_grammar.proofs.LaidOut.{onto-nil}
use Rattle.fluent_serializer.proofs.names.write_separator.Goals as goal

pub returns : goal.returns
returns c = rw c.if-after.false (sym (onto-nil _))
