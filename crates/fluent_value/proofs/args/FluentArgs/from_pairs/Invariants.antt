use Rattle.fluent_value.specs.ArgsSet.{AreSetFrom}
use Rattle.fluent_value.proofs.args.FluentArgs.from_pairs.Given as goal

-- the arguments are those of the pairs that came
abbrev pub invariant-pairs : goal.invariant-pairs
invariant-pairs g l = AreSetFrom g.K.Into.converts g.V.Into.converts g.C.FluentType.meaning l.yielded l.args
