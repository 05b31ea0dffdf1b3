use Rattle.std.proofs.Common.{◌≡◌, ◌≤◌, ◌∙◌, ap, length, map, arith}
use Rattle.fluent_ast.specs.View.{entry_view}
use Rattle.fluent_tidy.specs.TidyText.{apart_at, first_apart}
use Rattle.fluent_tidy.proofs.Marks.{mark_more, marks_done}
use Rattle.fluent_tidy.proofs.apart.apart_at.Goals as goal

pub loop-entry-preserved : goal.loop-entry-preserved
loop-entry-preserved g c =
    let text_of = g.S.Slice.text in
    let view = entry_view g.row.S.Denot text_of in
    let source = c.args.source.now in
    let items = c.args.entries.now in
    let left = c.loop-entry.left.now in
    mark_more view source items c.loop-entry.entry-index c.entry-item.result c.loop-entry.marks.items c.push.new.self.items (apart_at source c.args.places.now (map view items)) left c.after-left.result.now
    c.is_first_apart.result c.part_count.result c.loop-entry-test.true c.entry-item.is c.loop-entry.invariant c.in_ok-push.ensures.items
    (c.is_first_apart.ensures ∙ ap (λ s. first_apart s left) c.as_bytes.ensures.value) (c.part_count.ensures text_of) c.after-left.ensures

pub returns : goal.returns
returns g c =
    let view = entry_view g.row.S.Denot g.S.Slice.text in
    let items = c.args.entries.now in
    let over : length items ≤ c.loop-entry.entry-index = omega (arith, c.loop-entry-test.false) in
    marks_done view c.args.source.now items c.loop-entry.entry-index c.loop-entry.marks.items (apart_at c.args.source.now c.args.places.now (map view items)) c.loop-entry.left.now over c.loop-entry.invariant
