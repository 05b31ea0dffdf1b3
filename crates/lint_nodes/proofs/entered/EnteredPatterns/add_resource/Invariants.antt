use Rattle.std.proofs.Common.{List, ◌++◌, map, take}
use Rattle.fluent_ast.specs.Borrowed.{entry_of}
use Rattle.fluent_grammar.specs.Words.{Text}
use Rattle.fluent_ids.specs.IdsView.{ids_view}
use Rattle.lint_nodes.specs.Holding.{HasPatternsOf, declared_ids}
use Rattle.lint_nodes.proofs.entered.EnteredPatterns.add_resource.Given as goal

-- the ids of the entries so far were added
abbrev pub invariant-loop-entry : goal.invariant-loop-entry
invariant-loop-entry l =
    (seen : List Text) → HasPatternsOf (ids_view (Unit {0}) l.ids) l.fn.self seen →
    HasPatternsOf (ids_view (Unit {0}) l.ids) l.self (seen ++ declared_ids (map entry_of (take l.entry-index l.entry-items)))
