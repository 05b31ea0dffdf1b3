use Rattle.std.proofs.Common.{◌≡◌, ◌++◌, drop}
use Rattle.std.specs.List.{flat_map}
use Rattle.ftl_arguments.specs.Linting.{codes_named}
use Rattle.ftl_arguments.specs.Meaning.{texts}
use Rattle.ftl_arguments.proofs.codes.codes_of.Given as goal

abbrev pub invariant-loop-name : goal.invariant-loop-name
invariant-loop-name l = texts l.codes.items ++ flat_map codes_named (texts (drop l.name-index l.names)) ≡ flat_map codes_named (texts l.names)
