use Rattle.std.proofs.Common.{map}
use Rattle.lint_comparison.specs.LossView.{loss_view, nodes_of}
use Rattle.lint_comparison.proofs.LossesAdded.{next_variant}
use Rattle.lint_comparison.proofs.lacking.Lacking.push_variants.Goals as goal

pub loop-variant-preserved : goal.loop-variant-preserved
loop-variant-preserved c =
    let it = c.args.self.now in
    next_variant (nodes_of it.others.now) it.number.now it.name.now c.args.variants.now c.loop-variant.variant-index c.variant-item.result c.loop-variant-test.true c.variant-item.is (map loss_view c.loop-variant.losses.items) _
    c.loop-variant.invariant c.in_ok-push_variant.ensures
