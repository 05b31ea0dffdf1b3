use Rattle.std.proofs.Common.{◌≡◌, take}
use Rattle.lint_nodes.specs.Graph.{graph_of}
use Rattle.lint_nodes.specs.Holding.{patterns_of}
use Rattle.lint_nodes.specs.ReferenceGraph.{graph_by}
use Rattle.lint_nodes.proofs.graph.reference_graph.Given as goal

-- the patterns so far have their edges
abbrev pub invariant-loop-entered : goal.invariant-loop-entered
invariant-loop-entered l = graph_of l.graph.items ≡ graph_by l.indices (patterns_of (take l.entered-index l.patterns))
