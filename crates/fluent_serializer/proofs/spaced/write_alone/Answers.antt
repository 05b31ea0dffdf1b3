use Rattle.std.proofs.Common.{sym}
use Rattle.fluent_grammar.proofs.LaidOut.{onto-nil}
use Rattle.fluent_serializer.proofs.spaced.write_alone.Goals as goal

pub returns-in-Junk : goal.returns-in-Junk
returns-in-Junk g c = rw c.in-Junk.is (sym (onto-nil _))
