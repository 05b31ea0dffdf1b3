use Rattle.fluent_tidy_laws.proofs.WrittenTree.{well_formed_trees_are_canonical}
use Rattle.fluent_tidy_laws.proofs.laws.well_formed_trees_are_canonical.Goals as goal

pub returns : goal.returns
returns c = well_formed_trees_are_canonical
