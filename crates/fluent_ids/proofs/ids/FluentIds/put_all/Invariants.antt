use Rattle.std.proofs.Common.{◌≡◌, ◌+◌, ◌≤◌, map, take, length}
use Rattle.std.specs.HashMap.{spare}
use Rattle.fluent_ast.specs.View.{entry_view}
use Rattle.fluent_meaning.specs.Ids.{entries_by_id, with_ids}
use Rattle.fluent_ids.specs.IdsView.{ids_view}
use Rattle.fluent_ids.proofs.ids.FluentIds.put_all.Given as goal

-- the entries so far were put in, and there is room for the others
abbrev pub invariant-loop-plain : goal.invariant-loop-plain
invariant-loop-plain g l = record {
  ids : ids_view g.row.F.Denot l.self ≡ with_ids l.overriding (ids_view g.row.F.Denot l.initial.self) (entries_by_id (map (entry_view _ (λ s. s.now)) (take l.plain-index l.plain-items)));
  room : length l.plain-items ≤ spare l.self.entries + l.plain-index;
}
