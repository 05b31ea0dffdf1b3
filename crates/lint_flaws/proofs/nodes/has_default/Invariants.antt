use Rattle.std.proofs.Common.{◌≡◌, map, drop}
use Rattle.fluent_ast.specs.View.{variant_view, variants_of}
use Rattle.fluent_meaning.specs.Choice.{first_default}
use Rattle.lint_flaws.proofs.nodes.has_default.Given as goal

-- none of the variants so far is the default
abbrev pub invariant-loop-variant : goal.invariant-loop-variant
invariant-loop-variant l =
    let view = variant_view _ (λ s. s.now) in
    first_default (variants_of (map view (drop l.variant-index l.variants))) ≡ first_default (variants_of (map view l.variants))
