use Rattle.std.proofs.Common.{◌∙◌, ◌++◌, ap, map}
use Rattle.std.proofs.lemmas.Result.{on_ok_weaker}
use Rattle.lint_comparison.specs.LossView.{loss_view, nodes_of}
use Rattle.lint_comparison.proofs.LossesAdded.{beside}
use Rattle.lint_comparison.proofs.losses.push_losses.Goals as goal

pub returns : goal.returns
returns c =
    on_ok_weaker c.push_beside.result
    (λ added. added ∙ ap (λ l. map loss_view c.args.losses.now.items ++ l)
    (beside c.args.reference.now c.args.plurals c.args.message.now c.args.other.now c.deref.result.now (ap nodes_of c.deref.ensures.value ∙ c.in_ok-nodes.ensures)))
    c.push_beside.ensures
