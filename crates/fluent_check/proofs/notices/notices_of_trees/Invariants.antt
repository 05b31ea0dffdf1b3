use Rattle.std.proofs.Common.{◌≡◌, false, [], ◌∷◌, take}
use Rattle.fluent_meaning.specs.Ids.{notices, number_pair, with_ids}
use Rattle.fluent_check.specs.ReportView.{notices_view}
use Rattle.fluent_check.specs.Added.{trees_by_id, ids_in}
use Rattle.fluent_check.proofs.notices.notices_of_trees.Given as goal

abbrev pub invariant-loop-tree : goal.invariant-loop-tree
invariant-loop-tree l =
    (ids_in l.added ≡ with_ids false (number_pair ∷ []) (trees_by_id (take l.tree-index l.trees)))
    × (notices_view l.added.notices ≡ notices (number_pair ∷ []) (trees_by_id (take l.tree-index l.trees)))
