use Rattle.fluent_grammar.proofs.TilesPlain.{runtime_has_no_comments}
use Rattle.fluent_grammar.proofs.laws.tiling.runtime_has_no_comments.Goals as goal

pub returns : goal.returns
returns c = runtime_has_no_comments
