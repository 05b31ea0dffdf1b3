use Rattle.std.proofs.Common.{◌≡◌, map, drop}
use Rattle.std.specs.List.{list_all}
use Rattle.fluent_ast.specs.View.{variant_view, variants_of}
use Rattle.lint_findings.specs.Facts.{may_be_category}
use Rattle.lint_findings.specs.MissingCategories.{variant_keys}
use Rattle.lint_flaws.proofs.plural_keys.all_may_be.Given as goal

-- the variants so far make no difference
abbrev pub invariant-loop-variant : goal.invariant-loop-variant
invariant-loop-variant l =
    let view = variant_view _ (λ s. s.now) in
    list_all may_be_category (variant_keys (variants_of (map view (drop l.variant-index l.variants)))) ≡ list_all may_be_category (variant_keys (variants_of (map view l.variants)))
