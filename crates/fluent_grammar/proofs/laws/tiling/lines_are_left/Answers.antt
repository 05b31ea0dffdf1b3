use Rattle.fluent_grammar.proofs.Blanks.{lines_are_left}
use Rattle.fluent_grammar.proofs.laws.tiling.lines_are_left.Goals as goal

pub returns : goal.returns
returns c = lines_are_left
