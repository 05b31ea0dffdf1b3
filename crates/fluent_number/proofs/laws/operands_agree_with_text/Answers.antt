use Rattle.fluent_number.proofs.Agreeing.{operands_agree}
use Rattle.fluent_number.proofs.laws.operands_agree_with_text.Goals as goal

pub returns : goal.returns
returns c = operands_agree
