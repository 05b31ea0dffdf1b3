use Rattle.std.specs.Char.{encode_utf8}
use Rattle.fluent_date_tables.specs.Texts.{texts_18}
use Rattle.fluent_date_tables.proofs.texts.part_18.Goals as goal

-- the code's table and the definition's are the same, by computing
pub returns : goal.returns
unfolding texts_18 encode_utf8
returns c = c.text_at.ensures
