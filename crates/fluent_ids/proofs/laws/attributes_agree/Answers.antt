use Rattle.fluent_ids.proofs.FirstAttribute.{first-value}
use Rattle.fluent_ids.proofs.laws.attributes_agree.Goals as goal

pub returns : goal.returns
returns c = first-value
