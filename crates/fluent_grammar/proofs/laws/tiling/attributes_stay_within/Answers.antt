use Rattle.fluent_grammar.proofs.LawsOfDepth.{attributes_stay_within}
use Rattle.fluent_grammar.proofs.laws.tiling.attributes_stay_within.Goals as goal

pub returns : goal.returns
returns c = attributes_stay_within
