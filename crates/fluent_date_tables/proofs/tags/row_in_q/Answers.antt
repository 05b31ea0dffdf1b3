use Rattle.std.specs.Char.{encode_utf8}
use Rattle.fluent_date_tables.specs.Tags.{tags_q}
use Rattle.fluent_date_tables.proofs.tags.row_in_q.Goals as goal

-- the code's table and the definition's are the same, by computing
pub returns : goal.returns
unfolding tags_q encode_utf8
returns c = c.row_among.ensures
