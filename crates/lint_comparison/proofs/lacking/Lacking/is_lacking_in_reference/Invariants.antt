use Rattle.std.proofs.Common.{◌≡◌, drop}
use Rattle.std.specs.List.{list_any}
use Rattle.fluent_ast.specs.Borrowed.{key_of}
use Rattle.lint_findings.specs.Losses.{node_lacks}
use Rattle.lint_comparison.specs.LossView.{nodes_of}
use Rattle.lint_comparison.proofs.lacking.Lacking.is_lacking_in_reference.Given as goal

-- none of the nodes so far lacks it
abbrev pub invariant-loop-node : goal.invariant-loop-node
invariant-loop-node l =
    let lacks = node_lacks l.self.number.now (key_of l.key) l.self.name.now in
    list_any lacks (nodes_of (drop l.node-index l.node-items)) ≡ list_any lacks (nodes_of l.node-items)
