use Rattle.std.proofs.Common.{◌≡◌, map, take}
use Rattle.fluent_ast.specs.View.{entry_view}
use Rattle.fluent_ast.proofs.Resource.try_clone.Given as goal

abbrev pub invariant-loop-entry : goal.invariant-loop-entry
invariant-loop-entry g l = map (entry_view g.row.S.Denot g.S.Slice.text) l.body.items ≡ map (entry_view g.row.S.Denot g.S.Slice.text) (take l.entry-index l.entry-items)
