use Rattle.std.proofs.Common.{◌∙◌, ap, map}
use Rattle.std.proofs.lemmas.List.{take_all}
use Rattle.fluent_ids.specs.IdsView.{ids_view}
use Rattle.fluent_lint.specs.Own.{ids_of_tree}
use Rattle.fluent_lint.proofs.Loops.{one_pushed}
use Rattle.fluent_lint.proofs.own.ids_by_file.Goals as goal

pub loop-tree-preserved : goal.loop-tree-preserved
loop-tree-preserved c =
    one_pushed c.args.trees.now c.loop-tree.tree-index c.tree-item.result c.loop-tree-test.true c.tree-item.is
    (ids_view (Unit {0})) ids_of_tree c.loop-tree.all.items c.push.new.self.items _ c.in_ok-push.ensures.items c.in_ok-ids.ensures c.loop-tree.invariant

pub returns : goal.returns
returns c = c.loop-tree.invariant ∙ ap (map ids_of_tree) (take_all c.loop-tree.tree-index c.args.trees.now c.loop-tree-test.false)
