use Rattle.std.proofs.Common.{◌≡◌, [], take}
use Rattle.std.specs.List.{flat_map}
use Rattle.fluent_value.specs.Args.{all_set}
use Rattle.ftl_command.proofs.DatesSet.{values_in}
use Rattle.fluent_run.specs.Dated.{dated_view}
use Rattle.ftl_command.proofs.dated.dated_arguments.Given as goal

-- those of the arguments so far
abbrev pub invariant-loop-name : goal.invariant-loop-name
invariant-loop-name l = dated_view l.values ≡ all_set [] (flat_map values_in (take l.name-index l.arguments))
