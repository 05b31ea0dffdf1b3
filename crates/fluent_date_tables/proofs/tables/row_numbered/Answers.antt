use Rattle.fluent_date_tables.specs.Rows.{rows}
use Rattle.fluent_date_tables.proofs.tables.row_numbered.Goals as goal

-- the code's table and the definition's are the same, by computing
pub returns : goal.returns
unfolding rows
returns c = c.row_at.ensures
