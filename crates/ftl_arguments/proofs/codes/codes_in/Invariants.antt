use Rattle.std.proofs.Common.{◌≡◌, ◌++◌, drop}
use Rattle.std.specs.List.{flat_map}
use Rattle.ftl_arguments.specs.Linting.{code_list}
use Rattle.ftl_arguments.specs.Meaning.{texts}
use Rattle.ftl_arguments.proofs.codes.codes_in.Given as goal

abbrev pub invariant-loop-value : goal.invariant-loop-value
invariant-loop-value l = texts l.codes.items ++ flat_map code_list (texts (drop l.value-index l.value-items)) ≡ flat_map code_list (texts l.value-items)
