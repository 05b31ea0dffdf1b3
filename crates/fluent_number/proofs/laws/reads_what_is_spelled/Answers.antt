use Rattle.fluent_number.proofs.Spelled.{spells_what_was_read, reads_what_is_spelled}
use Rattle.fluent_number.proofs.laws.reads_what_is_spelled.Goals as goal

pub returns : goal.returns
returns c = λ text number. (spells_what_was_read text number, reads_what_is_spelled text number)
