use Rattle.fluent_tidy.proofs.Read.{versions_are_imported_alike}
use Rattle.fluent_tidy.proofs.laws.versions_are_imported_alike.Goals as goal

pub returns : goal.returns
returns c = versions_are_imported_alike c.value_decides_tree.ensures
