use Rattle.std.proofs.Common.{map, take}
use Rattle.lint_nodes.specs.OccurrenceView.{occurrence_view}
use Rattle.lint_comparison.specs.HasPlaces.{GetsOccurrences}
use Rattle.lint_comparison.proofs.places.Places.add_occurrences.Given as goal

-- the variables so far were added
abbrev pub invariant-loop-occurrence : goal.invariant-loop-occurrence
invariant-loop-occurrence l = GetsOccurrences l.fn.self (map occurrence_view (take l.occurrence-index l.occurrences)) l.self
