use Rattle.std.proofs.Common.{[], ◌∷◌, ◌++◌}
use Rattle.std.specs.List.{flat_map}
use Rattle.std.specs.Vec.Iter.{into_iter_items, into_iter_len}
use Rattle.ftl_project.specs.GroupsFound.{group_of_language}
use Rattle.ftl_project.specs.Paths.{paths}
use Rattle.ftl_project.specs.Reports.{groups_view}
use Rattle.ftl_project.specs.declared.language.Linted.{Linted}
use Rattle.ftl_project.proofs.Taken.{GivenSoFar}
use Rattle.ftl_project.proofs.chosen.push_groups.Given as goal

abbrev pub invariant-loop-language : goal.invariant-loop-language
invariant-loop-language l =
    let given = λ (x : Linted). group_of_language l.project (paths l.only) x ∷ [] in
    GivenSoFar given (groups_view l.initial.groups.items ++ flat_map given (into_iter_items l.initial.language-iterator))
    (groups_view l.groups.items) (into_iter_items l.language-iterator) (into_iter_len l.language-iterator)
