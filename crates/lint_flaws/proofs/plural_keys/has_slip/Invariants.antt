use Rattle.std.proofs.Common.{◌≡◌, map, drop}
use Rattle.std.specs.List.{list_any}
use Rattle.fluent_ast.specs.View.{variant_view, variants_of}
use Rattle.lint_findings.specs.Facts.{is_slip}
use Rattle.lint_findings.specs.MissingCategories.{variant_keys}
use Rattle.lint_flaws.proofs.plural_keys.has_slip.Given as goal

-- the variants so far make no difference
abbrev pub invariant-loop-variant : goal.invariant-loop-variant
invariant-loop-variant l =
    let view = variant_view _ (λ s. s.now) in
    list_any is_slip (variant_keys (variants_of (map view (drop l.variant-index l.variants)))) ≡ list_any is_slip (variant_keys (variants_of (map view l.variants)))
