use Rattle.std.proofs.Common.{◌≡◌, ◌++◌, map, drop}
use Rattle.fluent_ast.specs.View.{variant_view, variants_of}
use Rattle.lint_findings.specs.Runs as r
use Rattle.lint_markup.specs.InCode.{texts_of}
use Rattle.lint_texts.proofs.ends.+ends.Given as goal

-- those of the variants so far were added
abbrev pub invariant-push_variants-loop-variant : goal.invariant-push_variants-loop-variant
invariant-push_variants-loop-variant l =
    let view = variant_view _ (λ s. s.now) in
    texts_of l.ends.items ++ r.variants_ends (variants_of (map view (drop l.variant-index l.variants)))
    ≡ texts_of l.initial.ends.items ++ r.variants_ends (variants_of (map view l.variants))
