use Rattle.fluent_tidy_laws.proofs.NormalTexts.{canonical_trees_are_told_apart}
use Rattle.fluent_tidy_laws.proofs.laws.canonical_trees_are_told_apart.Goals as goal

pub returns : goal.returns
returns c = canonical_trees_are_told_apart
