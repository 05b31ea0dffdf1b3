use Rattle.std.proofs.Common.{◌≡◌, ◌++◌, map, drop}
use Rattle.fluent_ast.specs.View.{attribute_view}
use Rattle.lint_findings.specs.TermUses.{attributes_nodes}
use Rattle.lint_nodes.specs.NodeView.{node_view}
use Rattle.lint_flaws.proofs.term_uses.push_attributes.Given as goal

abbrev pub invariant-loop-attribute : goal.invariant-loop-attribute
invariant-loop-attribute l =
    let view = attribute_view _ (λ s. s.now) in
    map node_view l.nodes.items ++ attributes_nodes (map view (drop l.attribute-index l.attributes)) ≡ map node_view l.initial.nodes.items ++ attributes_nodes (map view l.attributes)
