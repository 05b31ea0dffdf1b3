use Rattle.fluent_number.proofs.Tidied.{reads_again}
use Rattle.fluent_number.proofs.laws.reads_again.Goals as goal

pub returns : goal.returns
returns c = reads_again
