use Rattle.std.proofs.Common.{◌≡◌, map, drop}
use Rattle.fluent_ast.specs.View.{variant_view, variants_of}
use Rattle.fluent_meaning.specs.Choice.{first_default}
use Rattle.lint_comparison.proofs.lacking.default_of.Given as goal

-- none of the variants so far is a default
abbrev pub invariant-loop-variant : goal.invariant-loop-variant
invariant-loop-variant l =
    let view = variant_view _ (λ s. s.now) in
    first_default (variants_of (map view (drop l.variant-index l.variants))) ≡ first_default (variants_of (map view l.variants))
