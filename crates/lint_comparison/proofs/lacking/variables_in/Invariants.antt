use Rattle.std.proofs.Common.{◌≡◌, List, [], map, drop}
use Rattle.std.specs.List.{flat_map}
use Rattle.fluent_grammar.specs.Words.{Text}
use Rattle.lint_nodes.specs.HasNames.{HasNames}
use Rattle.lint_findings.specs.Comparison.{union}
use Rattle.lint_findings.specs.Losses.{variable_of}
use Rattle.lint_nodes.specs.NodeView.{node_view}
use Rattle.lint_comparison.proofs.lacking.variables_in.Given as goal

-- the names so far, and then those of the nodes that are left, are all
abbrev pub invariant-loop-node : goal.invariant-loop-node
invariant-loop-node l =
    (xs : List Text) × HasNames l.names xs
    × (union xs (flat_map variable_of (map node_view (drop l.node-index l.node-items))) ≡ union [] (flat_map variable_of (map node_view l.node-items)))
