use Rattle.fluent_grammar.proofs.LineLaws.{blank_end_is_cut, common_indent_is_least}
use Rattle.fluent_grammar.proofs.laws.spelling.pieces_are_cut.Goals as goal

pub returns-clause-common_indent : goal.returns-clause-common_indent
returns-clause-common_indent c = common_indent_is_least

pub returns-clause-end : goal.returns-clause-end
returns-clause-end c = blank_end_is_cut
