use Rattle.std.proofs.Common.{◌≡◌, map, drop}
use Rattle.std.specs.List.{list_any}
use Rattle.fluent_ids.specs.IdsView.{ids_view}
use Rattle.lint_nodes.specs.NodeView.{node_view}
use Rattle.fluent_lint.specs.Shown.{leads_out}
use Rattle.fluent_lint.proofs.refers.any_leads_out.Given as goal

-- none of the nodes so far refers to one
abbrev pub invariant-loop-node : goal.invariant-loop-node
invariant-loop-node l =
    let leads = leads_out (ids_view (Unit {0}) l.own) in
    list_any leads (map node_view (drop l.node-index l.nodes)) ≡ list_any leads (map node_view l.nodes)
