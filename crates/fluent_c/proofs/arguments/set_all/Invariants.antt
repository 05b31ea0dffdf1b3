-- The arguments before the index are set.
use Rattle.std.proofs.Common.{◌≡◌, [], map, take}
use Rattle.fluent_run.specs.Dated.{dated_view}
use Rattle.fluent_value.specs.Args.{all_set}
use Rattle.fluent_c.specs.Arguments.{AreTaken}
use Rattle.fluent_kept.specs.Given.{pair_of}
use Rattle.fluent_c.proofs.arguments.set_all.Given as goal

abbrev pub invariant-loop-argument : goal.invariant-loop-argument
invariant-loop-argument l = record {
  set : dated_view l.arguments ≡ all_set [] (map pair_of (take l.argument-index l.given));
  taken : AreTaken (take l.argument-index l.given);
}
