use Rattle.std.proofs.Common.{rules}
use Rattle.ftl_arguments.proofs.Asked.{none_read}
use Rattle.ftl_arguments.proofs.formatting.read_arguments.Goals as goal

pub loop-word-init : goal.loop-word-init
loop-word-init c = none_read _ c.args.words.now (search rules)
