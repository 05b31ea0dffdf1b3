use Rattle.fluent_grammar.proofs.TilesErrors.{errors_are_true}
use Rattle.fluent_grammar.proofs.laws.tiling.errors_are_true.Goals as goal

pub returns : goal.returns
returns c = errors_are_true
