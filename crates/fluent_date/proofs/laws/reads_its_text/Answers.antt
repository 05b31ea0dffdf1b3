use Rattle.fluent_date.proofs.ReadBack.{reads_its_text}
use Rattle.fluent_date.proofs.laws.reads_its_text.Goals as goal

pub returns : goal.returns
returns c = reads_its_text
