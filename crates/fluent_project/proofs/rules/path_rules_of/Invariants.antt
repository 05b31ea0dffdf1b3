use Rattle.std.proofs.Common.{◌≡◌, drop, map}
use Rattle.toml.specs.View.{items_view}
use Rattle.fluent_project.specs.Files.{path_rule, rules_from}
use Rattle.fluent_project.specs.FileViews.{rule_view}
use Rattle.fluent_project.proofs.Collected.{behind}
use Rattle.fluent_project.proofs.rules.path_rules_of.Given as goal

abbrev pub invariant-loop-n : goal.invariant-loop-n
invariant-loop-n l = behind (map rule_view l.rules.items) (rules_from path_rule l.n (items_view (drop l.n l.values))) ≡ rules_from path_rule 0 (items_view l.values)
