use Rattle.std.proofs.Common.{take}
use Rattle.fluent_ids.specs.IdsView.{ids_view}
use Rattle.lint_nodes.specs.Catalog.{ids_of_trees}
use Rattle.lint_nodes.specs.Holding.{HasPatternsOf}
use Rattle.lint_nodes.proofs.entered.EnteredPatterns.of.Given as goal

-- those of the trees so far were added
abbrev pub invariant-loop-tree : goal.invariant-loop-tree
invariant-loop-tree l = HasPatternsOf (ids_view (Unit {0}) l.ids) l.entered (ids_of_trees (take l.tree-index l.trees))
