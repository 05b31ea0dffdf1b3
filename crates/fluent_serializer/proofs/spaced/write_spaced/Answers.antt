use Rattle.std.proofs.Common.{◌≡◌, ◌≤◌, ◌+◌, ◌∙◌, ◌∷◌, ap, sym, subst, map, drop, length, string_bytes, arith}
use Rattle.std.proofs.lemmas.List.{drop-drop}
use Rattle.fluent_grammar.specs.Written.{onto}
use Rattle.fluent_ast.specs.View.{entry_view}
use Rattle.fluent_serializer.specs.Spaced.{is_parted, spaced_signs}
use Rattle.fluent_serializer.proofs.Spacing.{entry-written, entries-left, all-written}
use Rattle.fluent_serializer.proofs.spaced.write_spaced.Goals as goal

pub loop-index-preserved : goal.loop-index-preserved
loop-index-preserved g c =
    let text_of = g.S.Slice.text in
    let view = entry_view g.row.S.Denot text_of in
    let items = c.args.resource.now.body.items in
    let index = c.loop-index.index in
    let after = c.loop-index.after in
    let free = c.loop-index.free in
    let marks = drop index c.args.apart.now in
    let item = c.entry-item.result in
    let left = subst (λ l. map view (drop index l) ≡ view item ∷ map view (drop (index + 1) l)) c.deref-entry-items.ensures.value
    (entries-left view c.deref-entry-items.result.now index item c.loop-index-test.true c.entry-item.is) in
    entry-written (string_bytes c.loop-index.out) (string_bytes c.write_gap.new.out) (string_bytes c.write_alone.new.out) after free marks (drop (index + 1) c.args.apart.now) (view item) (map view (drop (index + 1) items))
    c.is_parted.result c.is_free-free.result c.in_ok-write_gap.ensures c.in_ok-write_alone.ensures
    (c.is_parted.ensures text_of ∙ ap (λ b. is_parted after free b (view item)) c.is_marked-is_marked.ensures) (c.is_free-free.ensures text_of) (sym (drop-drop 1 index c.args.apart.now))
    ∙ ap (λ es. onto (string_bytes c.loop-index.out) (spaced_signs after free marks es)) (sym left) ∙ c.loop-index.invariant

pub returns : goal.returns
returns g c =
    let view = entry_view g.row.S.Denot g.S.Slice.text in
    let items = c.args.resource.now.body.items in
    let over : length items ≤ c.loop-index.index = omega (arith, c.loop-index-test.false, ap length c.deref-entry-items.ensures.value) in
    sym (all-written view items c.loop-index.index (string_bytes c.loop-index.out) c.loop-index.after c.loop-index.free (drop c.loop-index.index c.args.apart.now) over) ∙ c.loop-index.invariant
