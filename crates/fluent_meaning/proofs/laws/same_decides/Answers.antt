use Rattle.fluent_meaning.proofs.SameDecides.{elements-decides}
use Rattle.fluent_meaning.proofs.laws.same_decides.Goals as goal

pub returns : goal.returns
returns c = elements-decides
