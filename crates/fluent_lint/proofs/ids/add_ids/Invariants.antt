use Rattle.std.proofs.Common.{◌≡◌, ◌++◌, take}
use Rattle.fluent_ids.specs.IdsView.{ids_view}
use Rattle.fluent_lint.specs.Known.{by_ids, trees_by_id}
use Rattle.fluent_resource.specs.Sources.{texts}
use Rattle.fluent_lint.proofs.ids.add_ids.Given as goal

abbrev pub invariant-loop-tree : goal.invariant-loop-tree
invariant-loop-tree l = ids_view (Unit {0}) l.ids ≡ by_ids (texts l.functions ++ texts l.called) (trees_by_id (take l.tree-index l.trees))
