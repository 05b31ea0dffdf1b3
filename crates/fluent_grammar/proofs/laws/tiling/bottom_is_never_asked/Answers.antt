use Rattle.fluent_grammar.proofs.Depth.{bottom_is_never_asked}
use Rattle.fluent_grammar.proofs.laws.tiling.bottom_is_never_asked.Goals as goal

pub returns : goal.returns
returns c = bottom_is_never_asked
