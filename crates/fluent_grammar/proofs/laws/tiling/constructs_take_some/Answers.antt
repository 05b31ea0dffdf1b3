use Rattle.fluent_grammar.proofs.LawsOfDepth.{names_take_some, numbers_take_some, attributes_take_some, entries_take_some}
use Rattle.fluent_grammar.proofs.laws.tiling.constructs_take_some.Goals as goal

pub returns : goal.returns
returns c = record { names = names_take_some; numbers = numbers_take_some; attributes = attributes_take_some; entries = entries_take_some }
