use Rattle.fluent_grammar.proofs.Repeated.{attributes_need_no_more_steps}
use Rattle.fluent_grammar.proofs.laws.tiling.attributes_need_no_more_steps.Goals as goal

pub returns : goal.returns
returns c = attributes_need_no_more_steps
