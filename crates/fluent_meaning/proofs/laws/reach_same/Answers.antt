use Rattle.fluent_meaning.proofs.Reached.{pattern-reach-same, reach-same}
use Rattle.fluent_meaning.proofs.laws.reach_same.Goals as goal

pub returns-clause-messages : goal.returns-clause-messages
returns-clause-messages g c = reach-same

pub returns-clause-patterns : goal.returns-clause-patterns
returns-clause-patterns g c = pattern-reach-same
