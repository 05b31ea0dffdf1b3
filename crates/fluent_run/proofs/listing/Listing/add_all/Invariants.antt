use Rattle.std.proofs.Common.{map, take}
use Rattle.fluent_ast.specs.View.{entry_view}
use Rattle.fluent_meaning.specs.Ids.{entries_by_id}
use Rattle.fluent_run.specs.Listed.{ListsMore}
use Rattle.fluent_run.proofs.listing.Listing.add_all.Given as goal

-- the entries so far were listed
abbrev pub invariant-loop-entry : goal.invariant-loop-entry
invariant-loop-entry g l = ListsMore l.ids (entries_by_id (map (entry_view _ (λ s. s.now)) (take l.entry-index l.entry-items))) l.fn.self l.self
