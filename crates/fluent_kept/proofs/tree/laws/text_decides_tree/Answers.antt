use Rattle.fluent_kept.proofs.OneTree.{text_decides}
use Rattle.fluent_kept.proofs.tree.laws.text_decides_tree.Goals as goal

pub returns : goal.returns
returns c = text_decides
