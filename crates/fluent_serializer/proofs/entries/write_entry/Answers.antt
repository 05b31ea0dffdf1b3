use Rattle.std.proofs.Common.{sym}
use Rattle.fluent_grammar.proofs.LaidOut.{onto-nil}
use Rattle.fluent_serializer.proofs.entries.write_entry.Goals as goal

pub returns-in-Junk-2 : goal.returns-in-Junk-2
returns-in-Junk-2 g c = rw (c.in-Junk-2.is, c.if-options.false) (sym (onto-nil _))
