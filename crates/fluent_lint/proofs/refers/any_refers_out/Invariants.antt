use Rattle.std.proofs.Common.{◌≡◌, map, drop}
use Rattle.fluent_ast.specs.Borrowed.{entry_of}
use Rattle.fluent_ids.specs.IdsView.{ids_view}
use Rattle.fluent_lint.specs.Shown.{any_refers_out}
use Rattle.fluent_lint.proofs.refers.any_refers_out.Given as goal

-- none of the entries so far refers to one
abbrev pub invariant-loop-entry : goal.invariant-loop-entry
invariant-loop-entry l =
    let own = ids_view (Unit {0}) l.own in
    any_refers_out own (map entry_of (drop l.entry-index l.entries)) ≡ any_refers_out own (map entry_of l.entries)
