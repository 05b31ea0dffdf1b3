use Rattle.std.proofs.Common.{take}
use Rattle.lint_nodes.specs.HasReached.{GetsReferences}
use Rattle.lint_nodes.proofs.References.{nodes_references}
use Rattle.lint_nodes.proofs.reached.Reached.add_pattern.Given as goal

-- what the nodes so far name was added
abbrev pub invariant-loop-node : goal.invariant-loop-node
invariant-loop-node l = GetsReferences l.fn.self (nodes_references (take l.node-index l.node-items)) l.self
