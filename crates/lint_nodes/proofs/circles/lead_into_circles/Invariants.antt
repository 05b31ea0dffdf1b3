use Rattle.std.proofs.Common.{◌≡◌, ℕ, ◌<◌, false}
use Rattle.lint_nodes.specs.Graph.{graph_of}
use Rattle.lint_nodes.specs.Path.{IsSettled, is_new, state_at}
use Rattle.lint_nodes.proofs.circles.lead_into_circles.Given as goal

-- the nodes so far are known
abbrev pub invariant-loop-node : goal.invariant-loop-node
invariant-loop-node l = record {
  settled : IsSettled (graph_of l.graph) l.states.items;
  known : (v : ℕ) → v < l.node → is_new (state_at l.states.items v) ≡ false;
}
