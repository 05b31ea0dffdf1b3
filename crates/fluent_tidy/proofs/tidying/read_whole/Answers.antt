use Rattle.fluent_grammar.specs.Tiling.{errors}
use Rattle.fluent_tidy.proofs.Read.{no_errors_told}
use Rattle.fluent_tidy.proofs.tidying.read_whole.Goals as goal

pub returns-in-Ok-clause-whole : goal.returns-in-Ok-clause-whole
returns-in-Ok-clause-whole c = no_errors_told (errors c.args.source.now) c.in-Ok.ensures.errors
