use Rattle.fluent_serve.specs.RequestView.{parts_behind}
use Rattle.std.proofs.Common.{option_copied}
use Rattle.fluent_serve.specs.Text.{tab}
use Rattle.fluent_serve.proofs.Requests.{all_are_arguments}
use Rattle.fluent_serve.proofs.request.Arguments.of.Goals as goal

pub returns-clause-all : goal.returns-clause-all
returns-clause-all c = all_are_arguments (parts_behind tab (option_copied c.args.rest))
