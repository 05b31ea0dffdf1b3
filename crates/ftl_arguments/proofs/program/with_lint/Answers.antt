use Rattle.ftl_arguments.specs.Commands.{lint_shape}
use Rattle.ftl_arguments.proofs.program.with_lint.Goals as goal

pub returns : goal.returns
returns c = c.with_subcommand.ensures lint_shape c.lint.ensures
