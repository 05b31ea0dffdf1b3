use Rattle.fluent_grammar.proofs.Agreement.{arguments_agree, expressions_agree, placeables_agree, variants_agree}
use Rattle.fluent_grammar.proofs.laws.spelling.expressions_agree.Goals as goal

pub returns-clause-inline_expressions : goal.returns-clause-inline_expressions
returns-clause-inline_expressions c = expressions_agree

pub returns-clause-placeables : goal.returns-clause-placeables
returns-clause-placeables c = placeables_agree

pub returns-clause-call_arguments : goal.returns-clause-call_arguments
returns-clause-call_arguments c = arguments_agree

pub returns-clause-variants : goal.returns-clause-variants
returns-clause-variants c = variants_agree
