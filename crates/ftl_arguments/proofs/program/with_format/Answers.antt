use Rattle.ftl_arguments.specs.Commands.{format_shape}
use Rattle.ftl_arguments.proofs.program.with_format.Goals as goal

pub returns : goal.returns
returns c = c.with_subcommand.ensures format_shape c.format.ensures
