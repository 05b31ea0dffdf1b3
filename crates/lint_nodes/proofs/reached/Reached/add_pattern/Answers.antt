use Rattle.std.proofs.Common.{◌∙◌, ap, subst, map}
use Rattle.std.proofs.lemmas.List.{take_all}
use Rattle.fluent_ast.specs.Borrowed.{elements_of}
use Rattle.lint_nodes.specs.HasReached.{GetsReferences}
use Rattle.lint_nodes.proofs.References.{next_node, nodes_references, pattern_gets}
use Rattle.lint_nodes.specs.NodeView.{node_view}
use Rattle.lint_nodes.proofs.reached.Reached.add_pattern.Goals as goal

pub loop-node-init : goal.loop-node-init
loop-node-init c = λ ms vs has. has

pub loop-node-preserved : goal.loop-node-preserved
loop-node-preserved c =
    next_node c.args.self.now c.loop-node.self c.add_node.new.self c.deref-node-items.result.now c.loop-node.node-index c.node-item.result c.loop-node-test.true c.node-item.is c.loop-node.invariant c.in_ok-add_node.ensures

pub returns : goal.returns
returns c =
    let nodes = c.deref-node-items.result.now in
    let all = take_all c.loop-node.node-index nodes c.loop-node-test.false in
    pattern_gets c.args.self.now c.loop-node.self (elements_of c.args.pattern.now) nodes (ap (map node_view) c.deref-node-items.ensures.value ∙ c.in_ok-nodes.ensures)
    (subst (λ ns. GetsReferences c.args.self.now (nodes_references ns) c.loop-node.self) all c.loop-node.invariant)
