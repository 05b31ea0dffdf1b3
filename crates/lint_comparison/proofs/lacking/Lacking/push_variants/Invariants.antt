use Rattle.std.proofs.Common.{◌≡◌, ◌++◌, map, drop}
use Rattle.lint_comparison.specs.LackingView.{variants_in}
use Rattle.lint_comparison.specs.LossView.{loss_view}
use Rattle.lint_comparison.proofs.lacking.Lacking.push_variants.Given as goal

-- those found so far, and then those of the variants that are left, are all
abbrev pub invariant-loop-variant : goal.invariant-loop-variant
invariant-loop-variant l =
    map loss_view l.losses.items ++ variants_in l.self (drop l.variant-index l.variants) ≡ map loss_view l.initial.losses.items ++ variants_in l.self l.variants
