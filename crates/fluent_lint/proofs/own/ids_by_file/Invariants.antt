use Rattle.std.proofs.Common.{◌≡◌, map, take}
use Rattle.fluent_lint.specs.Own.{ids_of_tree, ids_views}
use Rattle.fluent_lint.proofs.own.ids_by_file.Given as goal

abbrev pub invariant-loop-tree : goal.invariant-loop-tree
invariant-loop-tree l = ids_views l.all.items ≡ map ids_of_tree (take l.tree-index l.trees)
