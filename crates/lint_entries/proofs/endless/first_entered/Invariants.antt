use Rattle.std.proofs.Common.{◌≡◌, drop}
use Rattle.lint_nodes.specs.EndlessView.{ids_of}
use Rattle.lint_entries.specs.FirstEndless as first
use Rattle.lint_entries.specs.FoundAt.{nodes_of}
use Rattle.lint_entries.proofs.endless.first_entered.Given as goal

abbrev pub invariant-loop-occurrence : goal.invariant-loop-occurrence
invariant-loop-occurrence l =
    let ids = ids_of l.endless in
    first.first_entered ids (nodes_of (drop l.occurrence-index l.occurrences)) ≡ first.first_entered ids (nodes_of l.occurrences)
