use Rattle.fluent_grammar.proofs.Agreement.{lines_agree, patterns_agree, pieces_agree}
use Rattle.fluent_grammar.proofs.laws.spelling.patterns_agree.Goals as goal

pub returns-clause-patterns : goal.returns-clause-patterns
returns-clause-patterns c = patterns_agree

pub returns-clause-lines : goal.returns-clause-lines
returns-clause-lines c = lines_agree

pub returns-clause-pieces : goal.returns-clause-pieces
returns-clause-pieces c = pieces_agree
