use Rattle.std.proofs.Common.{map, subst}
use Rattle.std.proofs.lemmas.List.{take_all}
use Rattle.lint_nodes.specs.OccurrenceView.{occurrence_view}
use Rattle.lint_comparison.specs.HasPlaces.{GetsOccurrences}
use Rattle.lint_comparison.proofs.PlacesAdded.{next_occurrence, none_added}
use Rattle.lint_comparison.proofs.places.Places.add_occurrences.Goals as goal

pub loop-occurrence-init : goal.loop-occurrence-init
loop-occurrence-init c = none_added c.args.self.now

pub loop-occurrence-preserved : goal.loop-occurrence-preserved
loop-occurrence-preserved c =
    next_occurrence c.args.self.now c.loop-occurrence.self c.add_node.new.self c.args.occurrences.now c.loop-occurrence.occurrence-index c.occurrence-item.result c.loop-occurrence-test.true c.occurrence-item.is
    c.loop-occurrence.invariant c.in_ok-add_node.ensures

pub returns : goal.returns
returns c =
    let all = take_all c.loop-occurrence.occurrence-index c.args.occurrences.now c.loop-occurrence-test.false in
    subst (λ xs. GetsOccurrences c.args.self.now (map occurrence_view xs) c.loop-occurrence.self) all c.loop-occurrence.invariant
