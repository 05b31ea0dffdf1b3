use Rattle.fluent_symbols.proofs.NamesInOrder.{names_ascend}
use Rattle.fluent_symbols.proofs.laws.names_ascend.Goals as goal

pub returns : goal.returns
returns c = names_ascend
