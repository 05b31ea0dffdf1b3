use Rattle.std.proofs.Common.{arith}
use Rattle.fluent_tokens.proofs.StringContent.{part_one}
use Rattle.fluent_tokens.proofs.strings.string_step.Goals as goal

pub returns-else-text-eq92 : goal.returns-else-text-eq92
returns-else-text-eq92 c = (part_one c.args.text.now c.requires c.if-text-eq34.false c.if-text-eq10.false c.if-text-eq92.false, omega arith, omega arith)
