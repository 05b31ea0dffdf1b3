use Rattle.std.proofs.Common.{◌∙◌, ap, map, subst}
use Rattle.lint_nodes.specs.OccurrenceView.{occurrence_view}
use Rattle.lint_comparison.specs.HasPlaces.{GetsOccurrences}
use Rattle.lint_comparison.proofs.places.Places.add_pattern.Goals as goal

pub returns-clause-added : goal.returns-clause-added
returns-clause-added c =
    subst (λ os. GetsOccurrences c.args.self.now os c.add_occurrences.new.self) (ap (map occurrence_view) c.deref.ensures.value ∙ c.in_ok-found.ensures.occurrences) c.in_ok-add_occurrences.ensures
