use Rattle.fluent_grammar.proofs.BlankWords.{blank_agrees, blank_inline_agrees, line_ends_agree, rests_of_lines_agree}
use Rattle.fluent_grammar.proofs.laws.spelling.blanks_agree.Goals as goal

pub returns-clause-blank_inline : goal.returns-clause-blank_inline
returns-clause-blank_inline c = blank_inline_agrees

pub returns-clause-line_ends : goal.returns-clause-line_ends
returns-clause-line_ends c = line_ends_agree

pub returns-clause-blank : goal.returns-clause-blank
returns-clause-blank c = blank_agrees

pub returns-clause-rests_of_lines : goal.returns-clause-rests_of_lines
returns-clause-rests_of_lines c = rests_of_lines_agree
