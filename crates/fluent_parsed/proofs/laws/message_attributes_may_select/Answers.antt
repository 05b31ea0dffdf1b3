use Rattle.fluent_parsed.proofs.NeverTold.{message_attributes_may_select}
use Rattle.fluent_parsed.proofs.laws.message_attributes_may_select.Goals as goal

pub returns : goal.returns
returns c = message_attributes_may_select
