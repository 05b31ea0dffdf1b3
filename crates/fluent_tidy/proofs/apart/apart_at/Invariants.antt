use Rattle.std.proofs.Common.{◌≡◌, ◌++◌, map, drop}
use Rattle.fluent_ast.specs.View.{entry_view}
use Rattle.fluent_tidy.specs.TidyText.{apart_at}
use Rattle.fluent_tidy.proofs.apart.apart_at.Given as goal

-- the marks of the entries that are left
abbrev pub invariant-loop-entry : goal.invariant-loop-entry
invariant-loop-entry g l =
    let view = entry_view g.row.S.Denot g.S.Slice.text in
    l.marks.items ++ apart_at l.source l.left (map view (drop l.entry-index l.entries)) ≡ apart_at l.source l.places (map view l.entries)
