use Rattle.fluent_date_tables.specs.Skeletons.{skeletons}
use Rattle.fluent_date_tables.proofs.tables.skeleton_numbered.Goals as goal

-- the code's table and the definition's are the same, by computing
pub returns : goal.returns
unfolding skeletons
returns c = c.skeleton_at.ensures
