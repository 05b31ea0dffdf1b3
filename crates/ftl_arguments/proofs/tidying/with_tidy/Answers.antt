use Rattle.ftl_arguments.specs.Commands.{tidy_shape}
use Rattle.ftl_arguments.proofs.tidying.with_tidy.Goals as goal

pub returns : goal.returns
returns c = c.with_subcommand.ensures tidy_shape c.tidy.ensures
