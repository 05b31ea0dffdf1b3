use Rattle.std.proofs.Common.{◌≡◌, ◌++◌, map, take}
use Rattle.fluent_ast.specs.Borrowed.{entry_of}
use Rattle.lint_nodes.specs.HasNames.{texts}
use Rattle.lint_comparison.specs.Referred.{entries_ids, named_by}
use Rattle.lint_comparison.proofs.referred.push_entries.Given as goal

abbrev pub invariant-loop-entry : goal.invariant-loop-entry
invariant-loop-entry l = texts l.ids.items ≡ texts l.initial.ids.items ++ entries_ids (named_by l.what) (map entry_of (take l.entry-index l.entries))
