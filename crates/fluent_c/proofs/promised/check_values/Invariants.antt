-- The arguments before the index have values.
use Rattle.std.proofs.Common.{take}
use Rattle.fluent_c.specs.Arguments.{AreTaken}
use Rattle.fluent_c.proofs.promised.check_values.Given as goal

abbrev pub invariant-loop-argument : goal.invariant-loop-argument
invariant-loop-argument l = AreTaken (take l.argument-index l.given)
