use Rattle.fluent_grammar.proofs.Repeated.{comments_need_no_more_steps}
use Rattle.fluent_grammar.proofs.laws.tiling.comments_need_no_more_steps.Goals as goal

pub returns : goal.returns
returns c = comments_need_no_more_steps
