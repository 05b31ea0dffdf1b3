use Rattle.std.proofs.Common.{◌≡◌}
use Rattle.toml.specs.View.{members_view}
use Rattle.fluent_project.specs.Files.{first_unknown}
use Rattle.fluent_project.specs.PlaceViews.{texts}
use Rattle.fluent_project.proofs.fields.first_unknown.Given as goal

abbrev pub invariant-loop-key : goal.invariant-loop-key
invariant-loop-key l =
    (goal.iterator-loop-key).can_next l.key-iterator ×
    (goal.iterator-loop-key).is_finite l.key-iterator ×
    (first_unknown (texts l.keys) (members_view l.key-iterator) ≡ first_unknown (texts l.keys) (members_view l.table.entries))
