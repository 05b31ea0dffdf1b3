use Rattle.std.proofs.Common.{◌≡◌, List, [], ◌++◌, map, drop}
use Rattle.fluent_ast.specs.View.{element_view, elements_of, inline_view, inlines_of, variant_view, variants_of, named_view, nameds_of}
use Rattle.fluent_grammar.specs.Tree as t
use Rattle.lint_findings.specs.Nodes as n
use Rattle.lint_nodes.specs.NodeView.{node_view}
use Rattle.lint_nodes.specs.HasKeys.{HasKeys}
use Rattle.lint_nodes.proofs.nodes.+nodes.Given as goal

abbrev pub invariant-push_pattern-loop-element : goal.invariant-push_pattern-loop-element
invariant-push_pattern-loop-element l =
    let view = element_view _ (λ s. s.now) in
    map node_view l.nodes.items ++ n.elements_nodes (elements_of (map view (drop l.element-index l.element-items)))
    ≡ map node_view l.initial.nodes.items ++ n.elements_nodes (elements_of (map view l.element-items))

abbrev pub invariant-push_variants-loop-variant : goal.invariant-push_variants-loop-variant
invariant-push_variants-loop-variant l =
    let view = variant_view _ (λ s. s.now) in
    (before : List t.VariantKey) × HasKeys l.keys before
    × (map node_view l.nodes.items ++ n.variants_nodes before (variants_of (map view (drop l.variant-index l.variants)))
    ≡ map node_view l.initial.nodes.items ++ n.variants_nodes [] (variants_of (map view l.variants)))

abbrev pub invariant-push_positional-loop-argument : goal.invariant-push_positional-loop-argument
invariant-push_positional-loop-argument l =
    let view = inline_view _ (λ s. s.now) in
    map node_view l.nodes.items ++ n.inlines_nodes (inlines_of (map view (drop l.argument-index l.arguments)))
    ≡ map node_view l.initial.nodes.items ++ n.inlines_nodes (inlines_of (map view l.arguments))

abbrev pub invariant-push_named-loop-argument : goal.invariant-push_named-loop-argument
invariant-push_named-loop-argument l =
    let view = named_view _ (λ s. s.now) in
    map node_view l.nodes.items ++ n.nameds_nodes (nameds_of (map view (drop l.argument-index l.arguments)))
    ≡ map node_view l.initial.nodes.items ++ n.nameds_nodes (nameds_of (map view l.arguments))
