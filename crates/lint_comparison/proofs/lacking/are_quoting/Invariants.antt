use Rattle.std.proofs.Common.{◌≡◌, map, drop}
use Rattle.std.specs.List.{list_any}
use Rattle.lint_findings.specs.Losses.{is_quoting}
use Rattle.lint_nodes.specs.NodeView.{node_view}
use Rattle.lint_comparison.proofs.lacking.are_quoting.Given as goal

-- none of the nodes so far is one
abbrev pub invariant-loop-node : goal.invariant-loop-node
invariant-loop-node l = list_any is_quoting (map node_view (drop l.node-index l.nodes)) ≡ list_any is_quoting (map node_view l.nodes)
