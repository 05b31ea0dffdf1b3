use Rattle.std.specs.Char.{encode_utf8}
use Rattle.fluent_date_tables.specs.Tags.{tags_i}
use Rattle.fluent_date_tables.proofs.tags.row_in_i.Goals as goal

-- the code's table and the definition's are the same, by computing
pub returns : goal.returns
unfolding tags_i encode_utf8
returns c = c.row_among.ensures
