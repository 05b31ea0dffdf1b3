use Rattle.std.proofs.Common.{◌≡◌, ◌++◌, map, take}
use Rattle.std.specs.List.{flat_map}
use Rattle.lint_nodes.specs.HasNames.{texts}
use Rattle.lint_nodes.specs.NodeView.{node_view}
use Rattle.lint_comparison.specs.Referred.{named_by, node_ids}
use Rattle.lint_comparison.proofs.referred.push_pattern.Given as goal

abbrev pub invariant-loop-node : goal.invariant-loop-node
invariant-loop-node l = texts l.ids.items ≡ texts l.initial.ids.items ++ flat_map (node_ids (named_by l.what)) (map node_view (take l.node-index l.node-items))
