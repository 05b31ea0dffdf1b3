use Rattle.fluent_grammar.proofs.LawsOfDepth.{readers_take_some}
use Rattle.fluent_grammar.proofs.laws.tiling.readers_take_some.Goals as goal

pub returns : goal.returns
returns c = readers_take_some
