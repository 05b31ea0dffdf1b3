use Rattle.fluent_grammar.proofs.Agreement.{accessors_agree, keys_agree, literals_agree, names_agree, numbers_agree, strings_agree, text_pieces_agree}
use Rattle.fluent_grammar.proofs.laws.spelling.words_agree.Goals as goal

pub returns-clause-names : goal.returns-clause-names
returns-clause-names c = names_agree

pub returns-clause-numbers : goal.returns-clause-numbers
returns-clause-numbers c = numbers_agree

pub returns-clause-strings : goal.returns-clause-strings
returns-clause-strings c = strings_agree

pub returns-clause-accessors : goal.returns-clause-accessors
returns-clause-accessors c = accessors_agree

pub returns-clause-keys : goal.returns-clause-keys
returns-clause-keys c = keys_agree

pub returns-clause-literals : goal.returns-clause-literals
returns-clause-literals c = literals_agree

pub returns-clause-text_pieces : goal.returns-clause-text_pieces
returns-clause-text_pieces c = text_pieces_agree
