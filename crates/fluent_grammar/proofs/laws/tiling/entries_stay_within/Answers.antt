use Rattle.fluent_grammar.proofs.LawsOfDepth.{entries_stay_within}
use Rattle.fluent_grammar.proofs.laws.tiling.entries_stay_within.Goals as goal

pub returns : goal.returns
returns c = entries_stay_within
