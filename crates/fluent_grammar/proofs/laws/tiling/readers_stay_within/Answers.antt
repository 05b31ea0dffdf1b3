use Rattle.fluent_grammar.proofs.LawsOfDepth.{readers_stay_within}
use Rattle.fluent_grammar.proofs.laws.tiling.readers_stay_within.Goals as goal

pub returns : goal.returns
returns c = readers_stay_within
