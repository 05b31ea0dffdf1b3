use Rattle.std.proofs.Common.{◌≡◌, false, take}
use Rattle.fluent_ids.specs.IdsView.{ids_view}
use Rattle.fluent_meaning.specs.Ids.{with_ids}
use Rattle.fluent_lint.specs.Known.{trees_by_id}
use Rattle.fluent_lint.specs.Own.{ids_of_tree}
use Rattle.fluent_lint.proofs.refers.wide_ids.Given as goal

abbrev pub invariant-loop-other : goal.invariant-loop-other
invariant-loop-other l = ids_view (Unit {0}) l.ids ≡ with_ids false (ids_of_tree l.tree) (trees_by_id (take l.other-index l.trees))
