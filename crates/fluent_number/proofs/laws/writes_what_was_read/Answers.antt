use Rattle.fluent_number.proofs.Tidied.{writes_what_was_read}
use Rattle.fluent_number.proofs.laws.writes_what_was_read.Goals as goal

pub returns : goal.returns
returns c = writes_what_was_read
