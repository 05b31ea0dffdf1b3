use Rattle.std.proofs.Common.{◌≡◌, ◌++◌, map, drop}
use Rattle.lint_nodes.specs.HasNames.{texts}
use Rattle.lint_comparison.specs.LackingView.{names_in}
use Rattle.lint_comparison.specs.LossView.{loss_view}
use Rattle.lint_comparison.proofs.lacking.push_names.Given as goal

-- those found so far, and then those of the variables that are left, are all
abbrev pub invariant-loop-name : goal.invariant-loop-name
invariant-loop-name l =
    map loss_view l.losses.items ++ names_in l.others l.number l.default l.variants (texts (drop l.name-index l.names))
    ≡ map loss_view l.initial.losses.items ++ names_in l.others l.number l.default l.variants (texts l.names)
