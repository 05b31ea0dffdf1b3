use Rattle.std.proofs.Common.{◌≡◌, map, drop}
use Rattle.lint_findings.specs.TermUses.{has_key}
use Rattle.lint_nodes.specs.NodeView.{node_view}
use Rattle.lint_flaws.proofs.term_uses.has_key.Given as goal

-- the nodes so far make no difference
abbrev pub invariant-loop-node : goal.invariant-loop-node
invariant-loop-node l = has_key (map node_view (drop l.node-index l.nodes)) l.variable l.key ≡ has_key (map node_view l.nodes) l.variable l.key
