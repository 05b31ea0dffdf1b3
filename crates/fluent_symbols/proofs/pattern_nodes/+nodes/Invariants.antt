use Rattle.std.proofs.Common.{◌≡◌, ◌++◌, map, drop}
use Rattle.fluent_ast.specs.View.{element_view, elements_of, inline_view, inlines_of, variant_view, variants_of, named_view, nameds_of}
use Rattle.lint_nodes.specs.Rests as rests
use Rattle.fluent_symbols.specs.NodeView.{node_view}
use Rattle.fluent_symbols.specs.PatternNodes.{elements_end, in_elements, in_inlines, in_nameds, in_variants}
use Rattle.fluent_symbols.proofs.pattern_nodes.+nodes.Given as goal

abbrev pub invariant-push_pattern-loop-element : goal.invariant-push_pattern-loop-element
invariant-push_pattern-loop-element l =
    let view = element_view _ (λ s. s.now) in
    let left = elements_of (map view (drop l.element-index l.element-items)) in
    let all = elements_of (map view l.element-items) in
    (rests.elements_rest left l.next ≡ rests.elements_rest all l.initial.next)
    × (elements_end l.at_line left l.at l.next ≡ elements_end l.initial.at_line all l.initial.at l.initial.next)
    × (map node_view l.found.items ++ in_elements l.at_line left l.at l.next ≡ map node_view l.initial.found.items ++ in_elements l.initial.at_line all l.initial.at l.initial.next)

abbrev pub invariant-push_variants-loop-variant : goal.invariant-push_variants-loop-variant
invariant-push_variants-loop-variant l =
    let view = variant_view _ (λ s. s.now) in
    let left = variants_of (map view (drop l.variant-index l.variants)) in
    let all = variants_of (map view l.variants) in
    (rests.variants_rest left l.rest ≡ rests.variants_rest all l.initial.rest)
    × (map node_view l.found.items ++ in_variants left l.rest ≡ map node_view l.initial.found.items ++ in_variants all l.initial.rest)

abbrev pub invariant-push_positional-loop-argument : goal.invariant-push_positional-loop-argument
invariant-push_positional-loop-argument l =
    let view = inline_view _ (λ s. s.now) in
    let left = inlines_of (map view (drop l.argument-index l.given)) in
    let all = inlines_of (map view l.given) in
    (rests.inlines_rest left l.rest ≡ rests.inlines_rest all l.initial.rest)
    × (map node_view l.found.items ++ in_inlines left l.rest ≡ map node_view l.initial.found.items ++ in_inlines all l.initial.rest)

abbrev pub invariant-push_named-loop-argument : goal.invariant-push_named-loop-argument
invariant-push_named-loop-argument l =
    let view = named_view _ (λ s. s.now) in
    let left = nameds_of (map view (drop l.argument-index l.given)) in
    let all = nameds_of (map view l.given) in
    (rests.nameds_rest left l.rest ≡ rests.nameds_rest all l.initial.rest)
    × (map node_view l.found.items ++ in_nameds left l.rest ≡ map node_view l.initial.found.items ++ in_nameds all l.initial.rest)
