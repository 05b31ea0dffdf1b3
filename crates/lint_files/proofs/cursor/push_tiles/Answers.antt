use Rattle.std.proofs.Common.{◌≡◌, ◌∙◌, ◌+◌, ◌++◌, arith, drop, map, sym, ap, subst, take}
use Rattle.std.proofs.Math.ListN.{get_or-map}
use Rattle.std.proofs.lemmas.List.{length-map, take_all}
use Rattle.lint_files.specs.PartFindings.{declared_by, declared_by_parts}
use Rattle.lint_files.specs.Pushes.{found_from}
use Rattle.lint_files.specs.RulesView.{rules_view}
use Rattle.lint_entries.specs.First.{AreFirst}
use Rattle.lint_entries.proofs.Pushed.{next}
use Rattle.lint_findings.specs.View.{file_view, finding_view}
use Rattle.lint_entries.specs.TileView.{IsReadPart, tile_view}
use Rattle.lint_files.proofs.TilesPushed.{one_declared}
use Rattle.lint_files.proofs.cursor.push_tiles.Goals as goal

pub push_tile-requires-clause-read : goal.push_tile-requires-clause-read
push_tile-requires-clause-read c =
    let tiles = c.args.tiles.now in
    let i = c.loop-tile.tile-index in
    let item = c.tile-item.result in
    subst IsReadPart (get_or-map tile_view tiles i item ∙ ap tile_view (sym c.tile-item.is))
    (c.requires.read i (tile_view item) (omega (arith, length-map tiles tile_view, c.loop-tile-test.true)))

pub loop-tile-preserved : goal.loop-tile-preserved
loop-tile-preserved c =
    let rules = rules_view c.args.rules.now in
    let tiles = c.args.tiles.now in
    let i = c.loop-tile.tile-index in
    let item = c.tile-item.result in
    let start = c.args.start in
    let old = c.loop-tile.cursor in
    let new = c.push_tile.new.self in
    let inv = c.loop-tile.invariant in
    let had = map finding_view c.loop-tile.findings.items in
    let has = map finding_view c.push_tile.new.findings.items in
    let left = map tile_view (drop (i + 1) tiles) in
    let done = declared_by_parts (file_view start.file) (map tile_view (take i tiles)) in (
      c.in_ok-push_tile.ensures.cursor.place,
      c.in_ok-push_tile.ensures.cursor.file ∙ inv.1,
      λ before first.
          let now = inv.2 before first in
          let more : (before ++ done) ++ declared_by (file_view old.file) (tile_view item) ≡ before ++ declared_by_parts (file_view start.file) (map tile_view (take (i + 1) tiles)) =
          ap (λ f. (before ++ done) ++ declared_by (file_view f) (tile_view item)) inv.1
          ∙ ap (λ x. (before ++ done) ++ declared_by (file_view start.file) (tile_view x)) c.tile-item.is
          ∙ one_declared (file_view start.file) tiles i item before c.loop-tile-test.true in (
            subst (AreFirst c.push_tile.new.declarations) more (c.in_ok-push_tile.ensures.declared (before ++ done) now.0),
            ap (λ b. has ++ found_from rules new b left) (sym more)
                ∙ c.in_ok-push_tile.ensures.findings (before ++ done) now.0 left
                ∙ ap (λ l. had ++ found_from rules old (before ++ done) l) (sym (next tile_view tiles i item c.loop-tile-test.true c.tile-item.is))
                ∙ now.1,
          ),
    )

pub returns-clause-declared : goal.returns-clause-declared
returns-clause-declared c = λ before first.
    subst (AreFirst c.loop-tile.declarations) (ap (λ l. before ++ declared_by_parts (file_view c.args.start.file) (map tile_view l)) (take_all c.loop-tile.tile-index c.args.tiles.now c.loop-tile-test.false))
    (c.loop-tile.invariant.2 before first).0
