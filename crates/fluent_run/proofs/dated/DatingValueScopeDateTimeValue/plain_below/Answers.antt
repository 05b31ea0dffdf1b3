use Rattle.fluent_value.proofs.Digits.{integer-text}
use Rattle.fluent_run.proofs.dated.DatingValueScopeDateTimeValue.plain_below.Goals as goal

pub returns-in-None : goal.returns-in-None
returns-in-None g c n small shown = rw c.in-None.is (integer-text n)
