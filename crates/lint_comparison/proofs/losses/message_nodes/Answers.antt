use Rattle.std.proofs.Common.{◌≡◌, ◌∙◌, [], ◌++◌, ap, map, rules}
use Rattle.fluent_ast.specs.Borrowed.{attributes_of, message_of}
use Rattle.lint_findings.specs.TermUses.{attributes_nodes}
use Rattle.lint_nodes.specs.NodeView.{node_view}
use Rattle.lint_comparison.specs.LossView.{value_nodes}
use Rattle.lint_comparison.proofs.LossesAdded.{nodes_of_message}
use Rattle.lint_comparison.proofs.losses.message_nodes.Goals as goal

pub returns : goal.returns
returns c =
    let none : map node_view c.new-nodes.result.items ≡ [] = search rules in
    let of_value = value_nodes c.args.message.now.value in
    c.in_ok-push_attributes.ensures
    ∙ ap (λ l. l ++ attributes_nodes (attributes_of c.deref.result.now)) (c.in_ok-push_value.ensures ∙ ap (λ l. l ++ of_value) none)
    ∙ ap (λ as'. of_value ++ attributes_nodes as') (ap attributes_of c.deref.ensures.value)
    ∙ nodes_of_message (message_of c.args.message.now)
