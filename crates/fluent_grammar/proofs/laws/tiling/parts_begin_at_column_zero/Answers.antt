use Rattle.fluent_grammar.proofs.TilesColumns.{parts_begin_at_column_zero}
use Rattle.fluent_grammar.proofs.laws.tiling.parts_begin_at_column_zero.Goals as goal

pub returns : goal.returns
returns c = parts_begin_at_column_zero
