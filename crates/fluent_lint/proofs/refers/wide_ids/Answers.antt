use Rattle.std.proofs.Common.{◌∙◌}
use Rattle.fluent_ids.specs.IdsView.{ids_view}
use Rattle.fluent_lint.specs.Own.{ids_of_tree}
use Rattle.fluent_lint.proofs.Wide.{one_wide}
use Rattle.fluent_lint.proofs.refers.wide_ids.Goals as goal

pub loop-other-preserved : goal.loop-other-preserved
loop-other-preserved c =
    c.in_ok-add_resource_silently-2.ensures.added
    ∙ one_wide (ids_of_tree c.args.tree.now) c.args.trees.now c.loop-other.other-index c.other-item.result c.loop-other-test.true c.other-item.is
    (ids_view (Unit {0}) c.loop-other.ids) c.loop-other.invariant
