use Rattle.std.proofs.Common.{◌≡◌, map, drop}
use Rattle.fluent_ast.specs.Borrowed.{key_of}
use Rattle.fluent_ast.specs.View.{variant_view, variants_of}
use Rattle.lint_findings.specs.Losses.{variants_lack}
use Rattle.lint_comparison.proofs.lacking.variants_lack.Given as goal

-- none of the variants so far lacks it
abbrev pub invariant-loop-variant : goal.invariant-loop-variant
invariant-loop-variant l =
    let view = variant_view _ (λ s. s.now) in
    variants_lack (key_of l.key) l.name (variants_of (map view (drop l.variant-index l.variants))) ≡ variants_lack (key_of l.key) l.name (variants_of (map view l.variants))
