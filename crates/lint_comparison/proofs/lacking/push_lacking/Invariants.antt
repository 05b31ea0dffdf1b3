use Rattle.std.proofs.Common.{◌≡◌, ◌++◌, map, drop}
use Rattle.lint_comparison.specs.LossView.{lacking_in, loss_view}
use Rattle.lint_comparison.proofs.lacking.push_lacking.Given as goal

-- those found so far, and then those of the nodes that are left, are all
abbrev pub invariant-loop-node : goal.invariant-loop-node
invariant-loop-node l =
    map loss_view l.losses.items ++ lacking_in (drop l.node-index l.nodes) l.others ≡ map loss_view l.initial.losses.items ++ lacking_in l.nodes l.others
