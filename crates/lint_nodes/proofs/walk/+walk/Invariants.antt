use Rattle.std.proofs.Common.{◌≡◌, List, [], ◌++◌, map, drop}
use Rattle.fluent_ast.specs.View.{element_view, elements_of, inline_view, inlines_of, variant_view, variants_of, named_view, nameds_of}
use Rattle.fluent_grammar.specs.Tree as t
use Rattle.lint_nodes.specs.HasKeys.{HasKeys}
use Rattle.lint_nodes.specs.OccurrenceView.{occurrence_view}
use Rattle.lint_nodes.specs.Rests as rests
use Rattle.lint_nodes.specs.TreeOccurrences as tree
use Rattle.lint_nodes.proofs.walk.+walk.Given as goal

abbrev pub invariant-push_pattern-loop-element : goal.invariant-push_pattern-loop-element
invariant-push_pattern-loop-element l =
    let view = element_view _ (λ s. s.now) in
    let left = elements_of (map view (drop l.element-index l.element-items)) in
    let all = elements_of (map view l.element-items) in
    (rests.elements_rest left l.rest ≡ rests.elements_rest all l.initial.rest)
    × (map occurrence_view l.found.items ++ tree.elements_found left l.rest ≡ map occurrence_view l.initial.found.items ++ tree.elements_found all l.initial.rest)

abbrev pub invariant-push_variants-loop-variant : goal.invariant-push_variants-loop-variant
invariant-push_variants-loop-variant l =
    let view = variant_view _ (λ s. s.now) in
    let left = variants_of (map view (drop l.variant-index l.variants)) in
    let all = variants_of (map view l.variants) in
    (before : List t.VariantKey) × HasKeys l.keys before
    × (rests.variants_rest left l.rest ≡ rests.variants_rest all l.initial.rest)
    × (map occurrence_view l.found.items ++ tree.variants_found before left l.rest ≡ map occurrence_view l.initial.found.items ++ tree.variants_found [] all l.initial.rest)

abbrev pub invariant-push_positional-loop-argument : goal.invariant-push_positional-loop-argument
invariant-push_positional-loop-argument l =
    let view = inline_view _ (λ s. s.now) in
    let left = inlines_of (map view (drop l.argument-index l.arguments)) in
    let all = inlines_of (map view l.arguments) in
    (rests.inlines_rest left l.rest ≡ rests.inlines_rest all l.initial.rest)
    × (map occurrence_view l.found.items ++ tree.inlines_found left l.rest ≡ map occurrence_view l.initial.found.items ++ tree.inlines_found all l.initial.rest)

abbrev pub invariant-push_named-loop-argument : goal.invariant-push_named-loop-argument
invariant-push_named-loop-argument l =
    let view = named_view _ (λ s. s.now) in
    let left = nameds_of (map view (drop l.argument-index l.arguments)) in
    let all = nameds_of (map view l.arguments) in
    (rests.nameds_rest left l.rest ≡ rests.nameds_rest all l.initial.rest)
    × (map occurrence_view l.found.items ++ tree.nameds_found left l.rest ≡ map occurrence_view l.initial.found.items ++ tree.nameds_found all l.initial.rest)
