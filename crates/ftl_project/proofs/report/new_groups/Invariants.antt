use Rattle.std.proofs.Common.{[], ◌∷◌, ◌++◌}
use Rattle.std.specs.List.{flat_map}
use Rattle.std.specs.Vec.Iter.{into_iter_items, into_iter_len}
use Rattle.ftl_project.specs.Baselines.{lines_of}
use Rattle.ftl_project.specs.Left.{new_group}
use Rattle.ftl_project.specs.Reports.{group_view, groups_view}
use Rattle.ftl_project.specs.declared.report.Group.{Group}
use Rattle.ftl_project.proofs.Taken.{GivenSoFar}
use Rattle.ftl_project.proofs.report.new_groups.Given as goal

abbrev pub invariant-loop-group : goal.invariant-loop-group
invariant-loop-group l =
    let new = λ (g : Group). new_group (lines_of l.baseline) (group_view g) ∷ [] in
    GivenSoFar new (groups_view l.initial.left.items ++ flat_map new (into_iter_items l.initial.group-iterator))
    (groups_view l.left.items) (into_iter_items l.group-iterator) (into_iter_len l.group-iterator)
