use Rattle.std.specs.Char.{encode_utf8}
use Rattle.fluent_date_tables.specs.Lists.{lists_1}
use Rattle.fluent_date_tables.proofs.lists.part_1.Goals as goal

-- the code's table and the definition's are the same, by computing
pub returns : goal.returns
unfolding lists_1 encode_utf8
returns c = c.pairs_at.ensures
