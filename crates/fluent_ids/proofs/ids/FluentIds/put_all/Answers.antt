use Rattle.std.proofs.Common.{◌∙◌, sym, ap, arith}
use Rattle.fluent_meaning.specs.Ids.{with_ids}
use Rattle.fluent_ids.specs.IdsView.{ids_view}
use Rattle.fluent_ids.specs.EntryView.{pair_of}
use Rattle.fluent_ids.proofs.Steps.{put_more, skipped}
use Rattle.fluent_ids.proofs.ids.FluentIds.put_all.Goals as goal
use Rattle.fluent_ids.proofs.ids.FluentIds.put_all.Goals.{in-Some, in_default}

pub loop-plain-preserved : goal.loop-plain-preserved
loop-plain-preserved g c =
    elim c.match-of.branch [
      | in-Some w ↦ rw w.self-is (record {
        ids = put_more c.deref-plain-items.result.now c.loop-plain.plain-index c.plain-item.result c.loop-plain-test.true c.plain-item.is
            (pair_of g.row.F.Denot (w.in-Some.id, w.in-Some.entry)) (rw w.in-Some.is at c.of.ensures) (ids_view g.row.F.Denot c.args.self.now) c.args.overriding
            (ids_view g.row.F.Denot c.loop-plain.self) _ c.loop-plain.invariant.ids w.put.ensures.ids;
        room = let left = w.put.ensures.room in let before = c.loop-plain.invariant.room in omega arith;
      })
      | in_default w ↦ rw w.self-is (record {
        ids = c.loop-plain.invariant.ids ∙ ap (λ ps. with_ids c.args.overriding (ids_view g.row.F.Denot c.args.self.now) ps) (sym (skipped c.deref-plain-items.result.now c.loop-plain.plain-index c.plain-item.result c.loop-plain-test.true c.plain-item.is (rw w.in_default.is at c.of.ensures)));
        room = let before = c.loop-plain.invariant.room in omega arith;
      })
    ]
