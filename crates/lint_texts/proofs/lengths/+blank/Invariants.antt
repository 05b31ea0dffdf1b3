use Rattle.std.proofs.Common.{◌≡◌, map, drop}
use Rattle.fluent_ast.specs.View.{element_view, elements_of, variant_view, variants_of}
use Rattle.lint_findings.specs.Lengths as l
use Rattle.lint_texts.proofs.lengths.+blank.Given as goal

-- all elements so far may be
abbrev pub invariant-may_be_blank-loop-element : goal.invariant-may_be_blank-loop-element
invariant-may_be_blank-loop-element s =
    let view = element_view _ (λ s. s.now) in
    l.may_be_blank (elements_of (map view (drop s.element-index s.element-items))) ≡ l.may_be_blank (elements_of (map view s.element-items))

-- no variant so far may be
abbrev pub invariant-some_blank-loop-variant : goal.invariant-some_blank-loop-variant
invariant-some_blank-loop-variant s =
    let view = variant_view _ (λ s. s.now) in
    l.some_blank (variants_of (map view (drop s.variant-index s.variants))) ≡ l.some_blank (variants_of (map view s.variants))
