use Rattle.std.proofs.Common.{◌≡◌, map}
use Rattle.toml.specs.View.{members_view}
use Rattle.fluent_project.specs.Files.{variables_from}
use Rattle.fluent_project.specs.FileViews.{setting_view}
use Rattle.fluent_project.proofs.Collected.{behind}
use Rattle.fluent_project.proofs.variables.variables_from.Given as goal

abbrev pub invariant-loop-name : goal.invariant-loop-name
invariant-loop-name l =
    (goal.iterator-loop-name).can_next l.name-iterator ×
    (goal.iterator-loop-name).is_finite l.name-iterator ×
    (behind (map setting_view l.variables.items) (variables_from (members_view l.name-iterator)) ≡ variables_from (members_view l.table.entries))
