use Rattle.fluent_grammar.proofs.Depth.{patterns_need_no_more_levels, patterns_never_ask_the_bottom}
use Rattle.fluent_grammar.proofs.laws.tiling.patterns_need_no_more_levels.Goals as goal

pub returns : goal.returns
returns c = record { levels = patterns_need_no_more_levels; bottom = patterns_never_ask_the_bottom }
