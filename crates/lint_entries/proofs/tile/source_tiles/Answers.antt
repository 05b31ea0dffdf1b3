use Rattle.std.proofs.Common.{◌≡◌, ◌∙◌, ◌+◌, ◌++◌, drop, map, option_to_list, sym, ap, append-nil}
use Rattle.std.proofs.lemmas.List.Elements.{All-same}
use Rattle.fluent_ast.specs.Borrowed.{entries_of, entry_of}
use Rattle.lint_entries.proofs.Pushed.{next, none_left}
use Rattle.lint_findings.specs.Tiles.{tiles}
use Rattle.lint_entries.specs.Kept.{kept_entries, kept_tiles, part_of_tile, parts}
use Rattle.lint_entries.specs.TileView.{IsReadPart, tile_view}
use Rattle.lint_entries.proofs.Parts.{parts_are_read}
use Rattle.lint_entries.proofs.Walked.{all_before, all_entries, none_ahead, one_more}
use Rattle.lint_entries.proofs.tile.source_tiles.Goals as goal
use Rattle.lint_entries.proofs.tile.source_tiles.Goals.{in-Some+in_ok-push, in_default}

pub loop-entry-init : goal.loop-entry-init
loop-entry-init c =
    let source = c.args.source.now in (
      kept_tiles (tiles source),
      all_before c.new-walk.result source c.args.errors.now c.new-walk.ensures c.requires.errors,
      all_entries source (entries_of c.args.tree.now) c.requires.tree ∙ sym (ap (λ es. kept_entries (map entry_of es)) c.deref-entry-items.ensures.value),
      ap (λ l. map tile_view l ++ map part_of_tile (kept_tiles (tiles source))) c.in_ok-tiles.ensures.items,
    )

pub next-requires : goal.next-requires
next-requires c =
    let items = c.deref-entry-items.result.now in
    let i = c.loop-entry.entry-index in
    let inv = c.loop-entry.invariant in (
      inv.0,
      kept_entries (map entry_of (drop (i + 1) items)),
      record { before = inv.1; entries = inv.2 ∙ ap kept_entries (next entry_of items i c.entry-item.result c.loop-entry-test.true c.entry-item.is) },
    )

pub loop-entry-preserved : goal.loop-entry-preserved
loop-entry-preserved c =
    let items = c.deref-entry-items.result.now in
    let i = c.loop-entry.entry-index in
    let inv = c.loop-entry.invariant in
    let made = c.loop-entry.tiles.items in
    let passed = c.in_ok-tile.ensures inv.0 (kept_entries (map entry_of (drop (i + 1) items)))
    (record { before = inv.1; entries = inv.2 ∙ ap kept_entries (next entry_of items i c.entry-item.result c.loop-entry-test.true c.entry-item.is) }) in
    let pushed : c.match-branch-3.tiles.items ≡ made ++ option_to_list c.in_ok-tile.field-0 = elim c.match-branch-3.branch [
      | in-Some+in_ok-push w ↦ rw (w.tiles-is, w.in-Some.is) w.in_ok-push.ensures.items
      | in_default w ↦ rw (w.tiles-is, w.in_default.is) (sym (append-nil made))
    ] in
    (passed.left, passed.before, passed.entries, one_more made c.match-branch-3.tiles.items c.in_ok-tile.field-0 inv.0 passed.left pushed passed.parts inv.3)

pub returns-clause-tiles : goal.returns-clause-tiles
returns-clause-tiles c =
    let inv = c.loop-entry.invariant in
    let shown = map tile_view c.loop-entry.tiles.items in
    let none = none_ahead inv.0 (inv.2 ∙ ap kept_entries (none_left entry_of c.deref-entry-items.result.now c.loop-entry.entry-index c.loop-entry-test.false)) in
    sym (append-nil shown) ∙ ap (λ l. shown ++ l) (sym none) ∙ inv.3

pub returns-clause-read : goal.returns-clause-read
returns-clause-read c =
    let inv = c.loop-entry.invariant in
    let shown = map tile_view c.loop-entry.tiles.items in
    let none = none_ahead inv.0 (inv.2 ∙ ap kept_entries (none_left entry_of c.deref-entry-items.result.now c.loop-entry.entry-index c.loop-entry-test.false)) in
    All-same IsReadPart shown (parts c.args.source.now) (sym (append-nil shown) ∙ ap (λ l. shown ++ l) (sym none) ∙ inv.3) (parts_are_read c.args.source.now)
