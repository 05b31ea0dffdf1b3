use Rattle.fluent_json_write.proofs.Injective.{value_decides}
use Rattle.fluent_json_write.proofs.laws.value_decides_tree.Goals as goal

pub returns : goal.returns
returns c = value_decides
