use Rattle.std.proofs.Common.{◌≡◌, ℕ, List, map, take, false, is_some}
use Rattle.fluent_ast.specs.View.{entry_view}
use Rattle.fluent_meaning.specs.Ids.{entries_by_id, with_ids, find, notices}
use Rattle.fluent_ids.specs.IdsView.{ids_view}
use Rattle.fluent_ids.specs.Known.{is_known, told}
use Rattle.fluent_ids.proofs.ids.FluentIds.notices.Given as goal

-- the notices of the entries so far, after which the ids are known that would be there
abbrev pub invariant-loop-entry : goal.invariant-loop-entry
invariant-loop-entry g l = record {
  told : told l.notices ≡ notices (ids_view g.row.F.Denot l.self) (entries_by_id (map (entry_view _ (λ s. s.now)) (take l.entry-index l.entry-items)));
  known : (other : List ℕ) → is_known (ids_view g.row.F.Denot l.self) l.notices other ≡ is_some (find (with_ids false (ids_view g.row.F.Denot l.self) (entries_by_id (map (entry_view _ (λ s. s.now)) (take l.entry-index l.entry-items)))) other);
}
