use Rattle.std.proofs.Common.{◌∙◌}
use Rattle.fluent_ids.specs.IdsView.{ids_view}
use Rattle.fluent_lint.proofs.Lists.{one_function}
use Rattle.fluent_lint.proofs.ids.add_functions.Goals as goal

pub loop-id-preserved : goal.loop-id-preserved
loop-id-preserved c =
    c.in_ok-add_function.ensures
    ∙ one_function c.args.functions.now c.loop-id.id-index _ c.loop-id-test.true (ids_view (Unit {0}) c.args.ids.now) (ids_view (Unit {0}) c.loop-id.ids) c.loop-id.invariant
