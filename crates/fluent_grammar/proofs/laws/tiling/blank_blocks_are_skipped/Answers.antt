use Rattle.fluent_grammar.proofs.Blanks.{blank_blocks_are_skipped}
use Rattle.fluent_grammar.proofs.laws.tiling.blank_blocks_are_skipped.Goals as goal

pub returns : goal.returns
returns c = blank_blocks_are_skipped
