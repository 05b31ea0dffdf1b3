use Rattle.std.proofs.Common.{◌≡◌, ◌++◌, drop}
use Rattle.ftl_arguments.specs.Linting.{others_of}
use Rattle.ftl_arguments.specs.Meaning.{texts}
use Rattle.ftl_arguments.proofs.codes.push_others.Given as goal

abbrev pub invariant-loop-code : goal.invariant-loop-code
invariant-loop-code l =
    texts l.left.items ++ others_of (texts l.selected) (texts (drop l.code-index l.all))
    ≡ texts l.initial.left.items ++ others_of (texts l.selected) (texts l.all)
