use Rattle.std.proofs.Common.{◌≡◌, map, drop}
use Rattle.fluent_ast.specs.View.{element_view, elements_of, inline_view, inlines_of, variant_view, variants_of}
use Rattle.lint_findings.specs.Shown as s
use Rattle.lint_flaws.proofs.shown.+shown.Given as goal

-- what was passed doesn't show it
abbrev pub invariant-pattern_shows-loop-element : goal.invariant-pattern_shows-loop-element
invariant-pattern_shows-loop-element l =
    let view = element_view _ (λ s. s.now) in
    s.elements_show l.name (elements_of (map view (drop l.element-index l.element-items))) ≡ s.elements_show l.name (elements_of (map view l.element-items))

abbrev pub invariant-variants_show-loop-variant : goal.invariant-variants_show-loop-variant
invariant-variants_show-loop-variant l =
    let view = variant_view _ (λ s. s.now) in
    s.variants_show l.name (variants_of (map view (drop l.variant-index l.variants))) ≡ s.variants_show l.name (variants_of (map view l.variants))

abbrev pub invariant-inlines_show-loop-argument : goal.invariant-inlines_show-loop-argument
invariant-inlines_show-loop-argument l =
    let view = inline_view _ (λ s. s.now) in
    s.inlines_show l.name (inlines_of (map view (drop l.argument-index l.arguments))) ≡ s.inlines_show l.name (inlines_of (map view l.arguments))
