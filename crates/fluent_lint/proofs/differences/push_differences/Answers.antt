use Rattle.std.proofs.Common.{◌≡◌, ◌∙◌, ◌<◌, ◌≤◌, List, [], ◌++◌, arith, ap, get_or, length, map, subst, sym}
use Rattle.std.proofs.Math.ListN.{get_or-map}
use Rattle.std.proofs.lemmas.List.{length-map, take_all}
use Rattle.lint_nodes.specs.HasNames.{HasNames}
use Rattle.lint_entries.specs.Kept.{parts}
use Rattle.lint_entries.specs.TileView.{IsReadPart, tile_view}
use Rattle.lint_entries.specs.declared.tile.Tile.{Tile}
use Rattle.lint_findings.specs.View.{finding_view}
use Rattle.fluent_lint.specs.Own.{compared_in}
use Rattle.fluent_lint.specs.Shown.{of_firsts}
use Rattle.fluent_lint.proofs.Compared.{compared_is}
use Rattle.fluent_lint.proofs.FirstParts.{firsts_next, ids_next}
use Rattle.fluent_lint.proofs.differences.push_differences.Goals as goal

pub push_if_first-requires : goal.push_if_first-requires
push_if_first-requires c =
    let tiles = c.args.file.tiles.now.tiles.items in
    let i = c.loop-tile.tile-index in
    let item = c.tile-item.result in
    let inside : i < length tiles = subst (λ (ts : List Tile). i < length ts) c.deref-tile-items.ensures.value c.loop-tile-test.true in
    let is : item ≡ get_or tiles i item = c.tile-item.is ∙ ap (λ (ts : List Tile). get_or ts i item) c.deref-tile-items.ensures.value in
    subst IsReadPart (get_or-map tile_view tiles i item ∙ ap tile_view (sym is))
    (c.requires.file.tiles.read i (tile_view item) (omega (arith, length-map tiles tile_view, inside)))

pub loop-tile-preserved : goal.loop-tile-preserved
loop-tile-preserved c =
    let tiles = c.args.file.tiles.now.tiles.items in
    let i = c.loop-tile.tile-index in
    let item = c.tile-item.result in
    let inside : i < length tiles = subst (λ (ts : List Tile). i < length ts) c.deref-tile-items.ensures.value c.loop-tile-test.true in
    let is : item ≡ get_or tiles i item = c.tile-item.is ∙ ap (λ (ts : List Tile). get_or ts i item) c.deref-tile-items.ensures.value in
    let inv = c.loop-tile.invariant in (
      subst (HasNames c.push_if_first.new.ids) (ids_next tiles i item inside is) (c.in_ok-push_if_first.ensures.ids _ inv.0),
      firsts_next tiles i item inside is (compared_in c.args.plurals c.args.file c.args.original)
          (map finding_view c.args.findings.now.items) (map finding_view c.loop-tile.findings.items) (map finding_view c.push_if_first.new.findings.items)
          (c.in_ok-push_if_first.ensures.added _ inv.0) inv.1,
    )

pub returns : goal.returns
returns c = λ catalogs shown.
    let tiles = c.args.file.tiles.now.tiles.items in
    let by = compared_in c.args.plurals c.args.file c.args.original in
    let had = map finding_view c.args.findings.now.items in
    let over : length tiles ≤ c.loop-tile.tile-index = subst (λ (ts : List Tile). length ts ≤ c.loop-tile.tile-index) c.deref-tile-items.ensures.value c.loop-tile-test.false in
    c.loop-tile.invariant.1
    ∙ ap (λ l. had ++ of_firsts by [] (map tile_view l)) (take_all c.loop-tile.tile-index tiles over)
    ∙ ap (λ ps. had ++ of_firsts by [] ps) c.requires.file.tiles.parts
    ∙ ap (λ l. had ++ l) (compared_is c.args.plurals catalogs c.args.file c.args.original c.requires.file c.requires.original shown (parts c.args.file.tiles.now.file.source.now))
