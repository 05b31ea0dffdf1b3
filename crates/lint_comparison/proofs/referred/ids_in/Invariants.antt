use Rattle.std.proofs.Common.{◌≡◌, take}
use Rattle.lint_nodes.specs.HasNames.{texts}
use Rattle.lint_comparison.specs.Referred.{named_by, trees_ids}
use Rattle.lint_comparison.proofs.referred.ids_in.Given as goal

abbrev pub invariant-loop-tree : goal.invariant-loop-tree
invariant-loop-tree l = texts l.ids.items ≡ trees_ids (named_by l.what) (take l.tree-index l.trees)
