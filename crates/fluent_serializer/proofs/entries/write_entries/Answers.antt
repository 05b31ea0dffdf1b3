use Rattle.std.proofs.Common.{map, take, ap, sym, ◌∙◌, refl, false}
use Rattle.fluent_grammar.specs.Written.{onto, entries_signs}
use Rattle.fluent_grammar.proofs.LaidOut.{onto-nil, onto-then}
use Rattle.fluent_ast.proofs.Copied.{map-take_more}
use Rattle.fluent_serializer.proofs.Laid.{after_entries, after_entries-push, entries_signs-push}
use Rattle.fluent_ast.specs.View.{entry_view}
use Rattle.fluent_serializer.proofs.entries.write_entries.Goals as goal

pub loop-entry-init : goal.loop-entry-init
loop-entry-init g c = (sym (onto-nil _), refl)

pub loop-entry-preserved : goal.loop-entry-preserved
loop-entry-preserved g c =
    let text_of = g.S.Slice.text in
    let view = entry_view g.row.S.Denot text_of in
    let items = c.deref-entry-items.result.now in
    let item = c.entry-item.result in
    let with_junk = c.args.options.with_junk in
    let before = map view (take c.loop-entry.entry-index items) in
    let more = map-take_more view items c.loop-entry.entry-index item c.loop-entry-test.true c.entry-item.is in
    let entry = rw c.loop-entry.invariant.1 at c.in_ok-write_entry.ensures in (
      onto-then _ _ _ c.loop-entry.invariant.0 entry ∙ ap (onto _) (sym (ap (entries_signs with_junk false) more ∙ entries_signs-push with_junk false before _)),
      c.is_no_junk-after.ensures text_of ∙ sym (ap (after_entries false) more ∙ after_entries-push false before _),
    )
