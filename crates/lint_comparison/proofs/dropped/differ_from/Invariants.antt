use Rattle.std.proofs.Common.{◌≡◌, map, drop}
use Rattle.fluent_ast.specs.Borrowed.{elements_of}
use Rattle.fluent_ast.specs.View.{variant_view, variants_of}
use Rattle.lint_findings.specs.Losses.{differ_from}
use Rattle.lint_comparison.proofs.dropped.differ_from.Given as goal

-- the variants so far have the same
abbrev pub invariant-loop-variant : goal.invariant-loop-variant
invariant-loop-variant l =
    let view = variant_view _ (λ s. s.now) in
    differ_from (elements_of l.pattern) (variants_of (map view (drop l.variant-index l.variants))) ≡ differ_from (elements_of l.pattern) (variants_of (map view l.variants))
