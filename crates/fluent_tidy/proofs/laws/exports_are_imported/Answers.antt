use Rattle.fluent_tidy.proofs.Read.{exports_are_imported}
use Rattle.fluent_tidy.proofs.laws.exports_are_imported.Goals as goal

pub returns : goal.returns
returns c = exports_are_imported c.value_decides_tree.ensures
