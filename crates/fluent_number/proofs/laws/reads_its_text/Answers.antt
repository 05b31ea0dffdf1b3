use Rattle.fluent_number.proofs.Shown.{reads_its_text}
use Rattle.fluent_number.proofs.laws.reads_its_text.Goals as goal

pub returns : goal.returns
returns c = reads_its_text
