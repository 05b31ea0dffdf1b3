use Rattle.std.proofs.Common.{◌≡◌, ◌++◌, map, drop}
use Rattle.fluent_ast.specs.View.{variant_view, variants_of}
use Rattle.lint_findings.specs.View.{remark_view}
use Rattle.lint_findings.specs.Facts.{fact_remark, variants_facts}
use Rattle.lint_flaws.proofs.plural_keys.push_variants.Given as goal

abbrev pub invariant-loop-variant : goal.invariant-loop-variant
invariant-loop-variant l =
    let view = variant_view _ (λ s. s.now) in
    map remark_view l.found.items ++ map fact_remark (variants_facts l.plurals l.rule (variants_of (map view (drop l.variant-index l.variants))))
    ≡ map remark_view l.initial.found.items ++ map fact_remark (variants_facts l.plurals l.rule (variants_of (map view l.variants)))
