use Rattle.ftl_arguments.specs.Commands.{status_shape}
use Rattle.ftl_arguments.proofs.status.with_status.Goals as goal

pub returns : goal.returns
returns c = c.with_subcommand.ensures status_shape c.status.ensures
