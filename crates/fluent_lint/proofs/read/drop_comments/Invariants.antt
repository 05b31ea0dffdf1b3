use Rattle.std.proofs.Common.{◌≡◌, ◌++◌, map, take, drop}
use Rattle.fluent_ast.specs.Borrowed.{entry_of}
use Rattle.lint_entries.specs.AttributePlaces.{uncommented}
use Rattle.fluent_lint.proofs.read.drop_comments.Given as goal

abbrev pub invariant-loop-entry : goal.invariant-loop-entry
invariant-loop-entry l =
    let shown = map entry_of l.entries in
    take l.entry-index shown ++ map uncommented (drop l.entry-index shown) ≡ map uncommented (map entry_of l.fn.entries)
