use Rattle.std.proofs.Common.{◌∙◌, ◌++◌, ap, map}
use Rattle.std.specs.List.{flat_map}
use Rattle.std.proofs.lemmas.List.{take_all}
use Rattle.fluent_ast.specs.Borrowed.{elements_of}
use Rattle.lint_nodes.specs.HasNames.{texts}
use Rattle.lint_nodes.specs.NodeView.{node_view}
use Rattle.lint_comparison.specs.Referred.{named_by, node_ids}
use Rattle.lint_comparison.proofs.Naming.{nodes_ids}
use Rattle.lint_comparison.proofs.Lists.{one_more}
use Rattle.lint_comparison.proofs.referred.push_pattern.Goals as goal

pub loop-node-preserved : goal.loop-node-preserved
loop-node-preserved c =
    one_more node_view (node_ids (named_by c.args.what)) c.deref-node-items.result.now c.loop-node.node-index c.node-item.result c.loop-node-test.true c.node-item.is (texts c.args.ids.now.items) c.in_ok-push_node.ensures c.loop-node.invariant

pub returns : goal.returns
returns c =
    let nodes = c.deref-node-items.result.now in
    let read = ap (map node_view) c.deref-node-items.ensures.value ∙ c.in_ok-nodes.ensures in
    let all = ap (map node_view) (take_all c.loop-node.node-index nodes c.loop-node-test.false) ∙ read in
    c.loop-node.invariant ∙ ap (λ l. texts c.args.ids.now.items ++ l) (ap (flat_map (node_ids (named_by c.args.what))) all ∙ nodes_ids c.args.what (elements_of c.args.pattern.now))
