use Rattle.std.proofs.Common.{◌≡◌, drop}
use Rattle.toml.specs.View.{items_view}
use Rattle.fluent_project.specs.Files.{linked, rules_from}
use Rattle.fluent_project.specs.PlaceViews.{texts}
use Rattle.fluent_project.proofs.Collected.{behind}
use Rattle.fluent_project.proofs.rules.linked_of.Given as goal

abbrev pub invariant-loop-n : goal.invariant-loop-n
invariant-loop-n l = behind (texts l.paths.items) (rules_from (linked l.name) l.n (items_view (drop l.n l.values))) ≡ rules_from (linked l.name) 0 (items_view l.values)
