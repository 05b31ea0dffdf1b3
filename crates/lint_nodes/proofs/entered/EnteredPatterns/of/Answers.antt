use Rattle.std.proofs.Common.{sym, subst, take, ap}
use Rattle.std.proofs.lemmas.List.{take_all}
use Rattle.fluent_ids.specs.IdsView.{ids_view}
use Rattle.lint_nodes.specs.Catalog.{ids_of_trees}
use Rattle.lint_nodes.specs.Holding.{HasPatternsOf}
use Rattle.lint_nodes.proofs.Declared.{tree_more}
use Rattle.lint_nodes.proofs.entered.EnteredPatterns.of.Goals as goal

pub loop-tree-preserved : goal.loop-tree-preserved
loop-tree-preserved c =
    let xs = c.args.trees.now in
    let i = c.loop-tree.tree-index in
    subst (HasPatternsOf (ids_view (Unit {0}) c.args.ids.now) c.add_resource.new.self)
    (sym (tree_more xs i c.tree-item.result c.loop-tree-test.true c.tree-item.is))
    (c.in_ok-add_resource.ensures (ids_of_trees (take i xs)) c.loop-tree.invariant)

pub returns : goal.returns
returns c =
    subst (HasPatternsOf (ids_view (Unit {0}) c.args.ids.now) c.loop-tree.entered)
    (ap ids_of_trees (take_all c.loop-tree.tree-index c.args.trees.now c.loop-tree-test.false)) c.loop-tree.invariant
