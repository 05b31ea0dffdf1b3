use Rattle.std.proofs.Common.{◌≡◌, ◌++◌, drop, length}
use Rattle.std.specs.Vec.Iter.{into_iter_items, into_iter_len}
use Rattle.lint_findings.specs.View.{findings_view}
use Rattle.ftl_project.specs.Chosen.{chosen}
use Rattle.ftl_project.specs.GroupsFound.{reference_found}
use Rattle.ftl_project.specs.Paths.{paths}
use Rattle.ftl_project.proofs.chosen.push_references.Given as goal

-- what was found so far, and then what is found in the files that are left, is all; and so many findings are left
abbrev pub invariant-loop-reference : goal.invariant-loop-reference
invariant-loop-reference l =
    (findings_view l.found.items ++ chosen (paths l.only) (reference_found (drop l.reference-index l.references) (into_iter_items l.rest))
    ≡ findings_view l.initial.found.items ++ chosen (paths l.only) (reference_found l.references (into_iter_items l.initial.rest)))
    × (into_iter_len l.rest ≡ length (into_iter_items l.rest))
