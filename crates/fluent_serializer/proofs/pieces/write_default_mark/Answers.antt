use Rattle.std.proofs.Common.{rules}
use Rattle.fluent_grammar.proofs.LaidOut.{onto-mark}
use Rattle.fluent_serializer.proofs.pieces.write_default_mark.Goals as goal

pub returns : goal.returns
returns c = rw onto-mark (search rules)
