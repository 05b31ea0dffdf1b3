use Rattle.std.proofs.Common.{◌≡◌, ◌++◌, map, drop}
use Rattle.lint_findings.specs.View.{finding_view}
use Rattle.lint_nodes.specs.OccurrenceView.{occurrence_view}
use Rattle.lint_entries.specs.FoundAt.{occurrences_found}
use Rattle.lint_entries.proofs.nodes.push_occurrences.Given as goal

abbrev pub invariant-loop-occurrence : goal.invariant-loop-occurrence
invariant-loop-occurrence l =
    map finding_view l.findings.items ++ occurrences_found l.catalog l.source l.fn.label (map occurrence_view (drop l.occurrence-index l.occurrences))
    ≡ map finding_view l.initial.findings.items ++ occurrences_found l.catalog l.source l.fn.label (map occurrence_view l.occurrences)
