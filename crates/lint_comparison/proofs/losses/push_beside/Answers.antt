use Rattle.std.proofs.Common.{◌∙◌, ap, map}
use Rattle.std.proofs.lemmas.Result.{on_ok_weaker}
use Rattle.lint_comparison.specs.LossView.{loss_view, nodes_of}
use Rattle.lint_comparison.proofs.LossesAdded.{beside_added}
use Rattle.lint_comparison.proofs.losses.push_beside.Goals as goal

pub returns : goal.returns
returns c =
    on_ok_weaker c.push_written.result
    (beside_added c.args.reference.now c.args.plurals c.args.message.now c.args.other.now c.args.nodes.now c.deref.result.now c.deref-2.result.now c.deref-3.result.now
    (ap nodes_of c.deref.ensures.value ∙ c.in_ok-others.ensures) (ap nodes_of c.deref-2.ensures.value ∙ c.in_ok-others.ensures) (ap nodes_of c.deref-3.ensures.value ∙ c.in_ok-others.ensures)
    (map loss_view c.args.losses.now.items) c.in_ok-push_lacking.ensures c.in_ok-push_dropped.ensures)
    c.push_written.ensures
