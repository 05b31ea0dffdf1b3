use Rattle.std.proofs.Common.{◌≡◌, map, drop}
use Rattle.fluent_ast.specs.View.{variant_view, variants_of}
use Rattle.lint_findings.specs.MissingCategories.{has_category, variant_keys}
use Rattle.lint_flaws.proofs.missing.has_variant.Given as goal

-- none of the variants so far is for the category
abbrev pub invariant-loop-variant : goal.invariant-loop-variant
invariant-loop-variant l =
    let view = variant_view _ (λ s. s.now) in
    has_category (variant_keys (variants_of (map view (drop l.variant-index l.variants)))) l.category ≡ has_category (variant_keys (variants_of (map view l.variants))) l.category
