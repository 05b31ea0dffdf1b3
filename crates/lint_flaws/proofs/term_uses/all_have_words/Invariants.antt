use Rattle.std.proofs.Common.{◌≡◌, map, drop}
use Rattle.std.specs.List.{list_all}
use Rattle.lint_findings.specs.TermUses.{has_words}
use Rattle.lint_nodes.specs.NodeView.{node_view}
use Rattle.lint_flaws.proofs.term_uses.all_have_words.Given as goal

-- the nodes so far make no difference
abbrev pub invariant-loop-node : goal.invariant-loop-node
invariant-loop-node l = list_all (has_words l.name) (map node_view (drop l.node-index l.nodes)) ≡ list_all (has_words l.name) (map node_view l.nodes)
