use Rattle.std.proofs.Common.{◌≡◌, ◌++◌, map, drop}
use Rattle.fluent_ast.specs.View.{element_view, elements_of, variant_view, variants_of}
use Rattle.lint_findings.specs.Runs as r
use Rattle.lint_markup.specs.InCode.{texts_of}
use Rattle.lint_markup.proofs.runs.+runs.Given as goal

-- those of the elements so far were added
abbrev pub invariant-push_runs-loop-element : goal.invariant-push_runs-loop-element
invariant-push_runs-loop-element l =
    let view = element_view _ (λ s. s.now) in
    texts_of l.runs.items ++ r.inner_texts (elements_of (map view (drop l.element-index l.element-items)))
    ≡ texts_of l.initial.runs.items ++ r.inner_texts (elements_of (map view l.element-items))

-- those of the variants so far were added
abbrev pub invariant-push_variants-loop-variant : goal.invariant-push_variants-loop-variant
invariant-push_variants-loop-variant l =
    let view = variant_view _ (λ s. s.now) in
    texts_of l.runs.items ++ r.variants_texts (variants_of (map view (drop l.variant-index l.variants)))
    ≡ texts_of l.initial.runs.items ++ r.variants_texts (variants_of (map view l.variants))
