use Rattle.fluent_kept.proofs.OneTree.{writing_decides}
use Rattle.fluent_kept.proofs.tree.laws.text_decides_writing.Goals as goal

pub returns : goal.returns
returns c = writing_decides
