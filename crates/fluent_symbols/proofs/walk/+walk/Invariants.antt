use Rattle.std.proofs.Common.{◌≡◌, ◌++◌, map, drop}
use Rattle.fluent_ast.specs.View.{element_view, elements_of, inline_view, inlines_of, variant_view, variants_of, named_view, nameds_of}
use Rattle.lint_nodes.specs.Rests as rests
use Rattle.fluent_symbols.specs.OccurrenceView.{label, label_if, occurrence_view}
use Rattle.fluent_symbols.specs.Occurrences.{in_elements, in_inlines, in_nameds, in_variants}
use Rattle.fluent_symbols.proofs.walk.+walk.Given as goal

abbrev pub invariant-push_pattern-loop-element : goal.invariant-push_pattern-loop-element
invariant-push_pattern-loop-element l =
    let view = element_view _ (λ s. s.now) in
    let left = elements_of (map view (drop l.element-index l.element-items)) in
    let all = elements_of (map view l.element-items) in
    (rests.elements_rest left l.rest ≡ rests.elements_rest all l.initial.rest)
    × (map occurrence_view l.found.items ++ in_elements (label l.owner) left l.rest ≡ map occurrence_view l.initial.found.items ++ in_elements (label l.owner) all l.initial.rest)

abbrev pub invariant-push_variants-loop-variant : goal.invariant-push_variants-loop-variant
invariant-push_variants-loop-variant l =
    let view = variant_view _ (λ s. s.now) in
    let left = variants_of (map view (drop l.variant-index l.variants)) in
    let all = variants_of (map view l.variants) in
    (rests.variants_rest left l.rest ≡ rests.variants_rest all l.initial.rest)
    × (map occurrence_view l.found.items ++ in_variants (label l.owner) left l.rest ≡ map occurrence_view l.initial.found.items ++ in_variants (label l.owner) all l.initial.rest)

abbrev pub invariant-push_positional-loop-argument : goal.invariant-push_positional-loop-argument
invariant-push_positional-loop-argument l =
    let view = inline_view _ (λ s. s.now) in
    let left = inlines_of (map view (drop l.argument-index l.given)) in
    let all = inlines_of (map view l.given) in
    (rests.inlines_rest left l.rest ≡ rests.inlines_rest all l.initial.rest)
    × (map occurrence_view l.found.items ++ in_inlines (label l.owner) left l.rest ≡ map occurrence_view l.initial.found.items ++ in_inlines (label l.owner) all l.initial.rest)

abbrev pub invariant-push_named-loop-argument : goal.invariant-push_named-loop-argument
invariant-push_named-loop-argument l =
    let view = named_view _ (λ s. s.now) in
    let left = nameds_of (map view (drop l.argument-index l.given)) in
    let all = nameds_of (map view l.given) in
    let callee = label_if l.callee in
    (rests.nameds_rest left l.rest ≡ rests.nameds_rest all l.initial.rest)
    × (map occurrence_view l.found.items ++ in_nameds (label l.owner) callee left l.rest ≡ map occurrence_view l.initial.found.items ++ in_nameds (label l.owner) callee all l.initial.rest)
