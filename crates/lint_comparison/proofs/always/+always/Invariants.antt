use Rattle.std.proofs.Common.{◌≡◌, map, drop}
use Rattle.fluent_ast.specs.View.{element_view, elements_of, variant_view, variants_of}
use Rattle.lint_findings.specs.Shown as s
use Rattle.lint_comparison.proofs.always.+always.Given as goal

-- what was passed doesn't show it always
abbrev pub invariant-pattern_always_shows-loop-element : goal.invariant-pattern_always_shows-loop-element
invariant-pattern_always_shows-loop-element l =
    let view = element_view _ (λ s. s.now) in
    s.elements_always_show l.name (elements_of (map view (drop l.element-index l.element-items))) ≡ s.elements_always_show l.name (elements_of (map view l.element-items))

-- all variants so far do
abbrev pub invariant-variants_always_show-loop-variant : goal.invariant-variants_always_show-loop-variant
invariant-variants_always_show-loop-variant l =
    let view = variant_view _ (λ s. s.now) in
    s.variants_always_show l.name (variants_of (map view (drop l.variant-index l.variants))) ≡ s.variants_always_show l.name (variants_of (map view l.variants))
