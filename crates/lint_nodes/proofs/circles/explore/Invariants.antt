use Rattle.std.proofs.Common.{◌≡◌, false}
use Rattle.lint_nodes.specs.Graph.{graph_of}
use Rattle.lint_nodes.specs.Path.{KeepsKnown, is_new, state_at}
use Rattle.lint_nodes.proofs.Way.{IsOnWay}
use Rattle.lint_nodes.proofs.Work.{work}
use Rattle.lint_nodes.proofs.circles.explore.Given as goal

-- the current node is at the end of a path, and no node is new again
abbrev pub invariant-loop-next : goal.invariant-loop-next
invariant-loop-next l = record {
  way : IsOnWay (graph_of l.graph) l.states l.parents.items l.node l.followed;
  known : KeepsKnown l.fn.states l.states;
  start : is_new (state_at l.states l.start) ≡ false;
}

abbrev pub decreases-loop-next : goal.decreases-loop-next
decreases-loop-next l = work (graph_of l.graph) l.states l.parents.items l.node l.followed
