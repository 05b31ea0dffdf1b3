use Rattle.fluent_json.proofs.NoTree.{no_key}
use Rattle.fluent_json.proofs.read.patterns.read_key.Goals as goal

pub returns-clause-shape : goal.returns-clause-shape
returns-clause-shape c = λ _. no_key _ c.in_default.ensures.none c.in_default-number_literal.ensures.none
