use Rattle.std.proofs.Common.{◌≡◌, map, drop}
use Rattle.fluent_ast.specs.View.{element_view, elements_of, variant_view, variants_of}
use Rattle.lint_findings.specs.WrittenTexts as w
use Rattle.lint_comparison.proofs.words.+words.Given as goal

-- what was passed doesn't have it
abbrev pub invariant-pattern_has-loop-element : goal.invariant-pattern_has-loop-element
invariant-pattern_has-loop-element l =
    let view = element_view _ (λ s. s.now) in
    w.elements_have l.word (elements_of (map view (drop l.element-index l.element-items))) ≡ w.elements_have l.word (elements_of (map view l.element-items))

abbrev pub invariant-variants_have-loop-variant : goal.invariant-variants_have-loop-variant
invariant-variants_have-loop-variant l =
    let view = variant_view _ (λ s. s.now) in
    w.variants_have l.word (variants_of (map view (drop l.variant-index l.variants))) ≡ w.variants_have l.word (variants_of (map view l.variants))
