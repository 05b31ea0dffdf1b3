use Rattle.std.proofs.Common.{◌≡◌}
use Rattle.fluent_run.proofs.Valued.{values_with}
use Rattle.fluent_run.specs.DeskView.{arguments_view, values_behind}
use Rattle.fluent_serve.specs.RequestView.{arguments_left}
use Rattle.fluent_run.proofs.arguments.read_valued.Given as goal

-- the values so far, with those of the arguments that are left, are all values
abbrev pub invariant-loop-argument : goal.invariant-loop-argument
invariant-loop-argument l =
    values_with (arguments_view l.values) (arguments_left l.argument-iterator) ≡ values_behind l.fn.rest
