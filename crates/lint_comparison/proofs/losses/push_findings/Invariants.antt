use Rattle.std.proofs.Common.{◌≡◌, ◌++◌, map, drop}
use Rattle.lint_findings.specs.View.{finding_view}
use Rattle.lint_comparison.specs.LossView.{losses_at}
use Rattle.lint_comparison.proofs.losses.push_findings.Given as goal

-- those added so far, and then those of the losses that are left, are all
abbrev pub invariant-loop-loss : goal.invariant-loop-loss
invariant-loop-loss l =
    map finding_view l.findings.items ++ losses_at l.id l.offset (drop l.loss-index l.losses) ≡ map finding_view l.initial.findings.items ++ losses_at l.id l.offset l.losses
