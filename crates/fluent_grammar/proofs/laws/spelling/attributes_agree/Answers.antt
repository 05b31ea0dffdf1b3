use Rattle.fluent_grammar.proofs.Agreement.{attributes_agree, runs_of_attributes_agree}
use Rattle.fluent_grammar.proofs.laws.spelling.attributes_agree.Goals as goal

pub returns-clause-one : goal.returns-clause-one
returns-clause-one c = attributes_agree

pub returns-clause-all : goal.returns-clause-all
returns-clause-all c = runs_of_attributes_agree
