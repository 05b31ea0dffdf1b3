use Rattle.std.proofs.Common.{◌≡◌, drop}
use Rattle.std.specs.List.{list_any}
use Rattle.lint_findings.specs.Losses.{is_term}
use Rattle.lint_comparison.specs.LossView.{nodes_of}
use Rattle.lint_comparison.proofs.written.refers_to.Given as goal

-- none of the nodes so far refers to it
abbrev pub invariant-loop-node : goal.invariant-loop-node
invariant-loop-node l = list_any (is_term l.id) (nodes_of (drop l.node-index l.nodes)) ≡ list_any (is_term l.id) (nodes_of l.nodes)
