use Rattle.fluent_meaning.proofs.Weights.{messages-weigh, terms-weigh, variants-weigh}
use Rattle.fluent_meaning.proofs.laws.entered_patterns_weigh_less.Goals as goal

pub returns-clause-messages : goal.returns-clause-messages
returns-clause-messages g c = messages-weigh

pub returns-clause-terms : goal.returns-clause-terms
returns-clause-terms g c = terms-weigh

pub returns-clause-variants : goal.returns-clause-variants
returns-clause-variants g c = variants-weigh
