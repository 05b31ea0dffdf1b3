use Rattle.std.proofs.Common.{◌≡◌, map, drop}
use Rattle.fluent_ast.specs.View.{element_view, elements_of, variant_view, variants_of}
use Rattle.lint_findings.specs.Runs as r
use Rattle.lint_markup.specs.Wanted.{is_wanted}
use Rattle.lint_markup.proofs.always.+always.Given as goal

-- no select so far has it
abbrev pub invariant-always-loop-element : goal.invariant-always-loop-element
invariant-always-loop-element l =
    let view = element_view _ (λ s. s.now) in
    r.some_select (is_wanted l.wanted) (elements_of (map view (drop l.element-index l.element-items))) ≡ r.always (is_wanted l.wanted) (elements_of (map view l.element-items))

-- all variants so far have it
abbrev pub invariant-all_have-loop-variant : goal.invariant-all_have-loop-variant
invariant-all_have-loop-variant l =
    let view = variant_view _ (λ s. s.now) in
    r.all_pass (is_wanted l.wanted) (variants_of (map view (drop l.variant-index l.variants))) ≡ r.all_pass (is_wanted l.wanted) (variants_of (map view l.variants))
