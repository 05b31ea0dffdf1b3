use Rattle.std.proofs.Common.{◌∙◌, sym, ap, false, is_some}
use Rattle.fluent_errors.specs.View as e
use Rattle.fluent_meaning.specs.Ids.{find, notices, with_ids}
use Rattle.fluent_ids.specs.EntryView.{pair_of}
use Rattle.fluent_ids.specs.IdsView.{ids_view}
use Rattle.fluent_ids.specs.Known.{is_known, told}
use Rattle.fluent_ids.proofs.Steps.{tell_more, know_more, skipped}
use Rattle.fluent_ids.proofs.ids.FluentIds.notices.Goals as goal

pub loop-entry-preserved-in_default : goal.loop-entry-preserved-in_default
loop-entry-preserved-in_default g c =
    let same = sym (skipped c.deref-entry-items.result.now c.loop-entry.entry-index c.entry-item.result c.loop-entry-test.true c.entry-item.is (rw c.in_default.is at c.of.ensures)) in
    record {
      told = c.loop-entry.invariant.told ∙ ap (λ ps. notices (ids_view g.row.F.Denot c.args.self.now) ps) same;
      known = λ other. c.loop-entry.invariant.known other ∙ ap (λ ps. is_some (find (with_ids false (ids_view g.row.F.Denot c.args.self.now) ps) other)) same;
    }

pub loop-entry-preserved : goal.loop-entry-preserved
loop-entry-preserved g c =
    let one = rw c.in-Some.is at c.of.ensures in
    record {
      told = tell_more c.deref-entry-items.result.now c.loop-entry.entry-index c.entry-item.result c.loop-entry-test.true c.entry-item.is
          (pair_of g.row.F.Denot (c.in-Some.id, c.in-Some.entry)) one (ids_view g.row.F.Denot c.args.self.now)
          (told c.loop-entry.notices) (told c.look.new.self) (is_known (ids_view g.row.F.Denot c.args.self.now) c.loop-entry.notices c.in-Some.id.now) (e.entry_view c.kind.result)
          c.loop-entry.invariant.told (c.loop-entry.invariant.known c.in-Some.id.now) c.kind.ensures c.in_ok-look.ensures.told;
      known = λ other. know_more c.deref-entry-items.result.now c.loop-entry.entry-index c.entry-item.result c.loop-entry-test.true c.entry-item.is
          (pair_of g.row.F.Denot (c.in-Some.id, c.in-Some.entry)) one (ids_view g.row.F.Denot c.args.self.now) other
          (is_known (ids_view g.row.F.Denot c.args.self.now) c.loop-entry.notices other) (is_known (ids_view g.row.F.Denot c.args.self.now) c.look.new.self other)
          (c.loop-entry.invariant.known other) (c.in_ok-look.ensures.known other);
    }
