use Rattle.fluent_grammar.proofs.Agreement.{arguments_are_unique, attributes_are_unique, entries_are_unique, expressions_are_unique, lines_are_unique, patterns_are_unique, pieces_are_unique, placeables_are_unique, runs_of_attributes_are_unique, variants_are_unique}
use Rattle.fluent_grammar.proofs.laws.spelling.nodes_are_unique.Goals as goal

pub returns-clause-inline_expressions : goal.returns-clause-inline_expressions
returns-clause-inline_expressions c = expressions_are_unique

pub returns-clause-placeables : goal.returns-clause-placeables
returns-clause-placeables c = placeables_are_unique

pub returns-clause-call_arguments : goal.returns-clause-call_arguments
returns-clause-call_arguments c = arguments_are_unique

pub returns-clause-variants : goal.returns-clause-variants
returns-clause-variants c = variants_are_unique

pub returns-clause-patterns : goal.returns-clause-patterns
returns-clause-patterns c = patterns_are_unique

pub returns-clause-lines : goal.returns-clause-lines
returns-clause-lines c = lines_are_unique

pub returns-clause-pieces : goal.returns-clause-pieces
returns-clause-pieces c = pieces_are_unique

pub returns-clause-attributes : goal.returns-clause-attributes
returns-clause-attributes c = attributes_are_unique

pub returns-clause-runs_of_attributes : goal.returns-clause-runs_of_attributes
returns-clause-runs_of_attributes c = runs_of_attributes_are_unique

pub returns-clause-entries : goal.returns-clause-entries
returns-clause-entries c = entries_are_unique
