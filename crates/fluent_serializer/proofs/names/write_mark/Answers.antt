use Rattle.std.proofs.Common.{sym}
use Rattle.fluent_grammar.proofs.LaidOut.{onto-nil}
use Rattle.fluent_serializer.proofs.names.write_mark.Goals as goal

pub returns : goal.returns
returns c = rw c.if-default.false (sym (onto-nil _))
