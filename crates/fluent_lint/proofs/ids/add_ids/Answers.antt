use Rattle.std.proofs.Common.{◌++◌, ◌∙◌}
use Rattle.fluent_ids.specs.IdsView.{ids_view}
use Rattle.fluent_resource.specs.Sources.{texts}
use Rattle.fluent_lint.proofs.Lists.{one_tree}
use Rattle.fluent_lint.proofs.ids.add_ids.Goals as goal

pub loop-tree-preserved : goal.loop-tree-preserved
loop-tree-preserved c =
    c.in_ok-add_resource_silently.ensures.added
    ∙ one_tree (texts c.args.functions.now ++ texts c.args.called.now) c.args.trees.now c.loop-tree.tree-index c.tree-item.result c.loop-tree-test.true c.tree-item.is (ids_view (Unit {0}) c.loop-tree.ids) c.loop-tree.invariant
