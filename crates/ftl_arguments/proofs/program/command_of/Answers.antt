use Rattle.std.proofs.Common.{[], refl}
use Rattle.clap.specs.Words.{rule_of}
use Rattle.ftl_arguments.specs.Commands.{shaped}
use Rattle.ftl_arguments.proofs.program.command_of.Goals as goal

pub returns : goal.returns
returns c = λ local. c.with_argument.ensures (shaped c.args.name.now []) (rule_of c.args.argument) c.named.ensures (refl, local)
