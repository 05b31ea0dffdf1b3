use Rattle.std.proofs.Common.{◌≡◌, ◌++◌, map, drop}
use Rattle.fluent_ast.specs.View.{variant_view, variants_of}
use Rattle.lint_nodes.specs.HasNames.{texts}
use Rattle.lint_findings.specs.WrittenTexts as w
use Rattle.lint_comparison.proofs.words.+plain.Given as goal

abbrev pub invariant-push_variants-loop-variant : goal.invariant-push_variants-loop-variant
invariant-push_variants-loop-variant l =
    let view = variant_view _ (λ s. s.now) in
    texts l.texts.items ++ w.variants_texts (variants_of (map view (drop l.variant-index l.variants)))
    ≡ texts l.initial.texts.items ++ w.variants_texts (variants_of (map view l.variants))
