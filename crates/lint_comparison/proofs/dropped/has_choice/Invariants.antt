use Rattle.std.proofs.Common.{◌≡◌, drop}
use Rattle.std.specs.List.{list_any}
use Rattle.lint_findings.specs.Losses.{is_choice}
use Rattle.lint_comparison.specs.LossView.{nodes_of}
use Rattle.lint_comparison.proofs.dropped.has_choice.Given as goal

-- none of the nodes so far is one
abbrev pub invariant-loop-node : goal.invariant-loop-node
invariant-loop-node l = list_any is_choice (nodes_of (drop l.node-index l.nodes)) ≡ list_any is_choice (nodes_of l.nodes)
