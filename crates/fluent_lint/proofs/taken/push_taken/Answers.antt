use Rattle.std.proofs.Common.{◌≡◌, ◌∙◌, ◌<◌, ◌≤◌, List, ◌++◌, ap, get_or, length, map, subst}
use Rattle.std.proofs.lemmas.List.{take_all}
use Rattle.lint_entries.specs.First.{AreFirst}
use Rattle.lint_entries.specs.TileView.{tile_view}
use Rattle.lint_entries.specs.declared.tile.Tile.{Tile}
use Rattle.lint_findings.specs.View.{file_view, finding_view}
use Rattle.fluent_lint.specs.Taken.{met_before, met_through, taken_from}
use Rattle.fluent_lint.specs.TakenView.{AreMet, original_view}
use Rattle.fluent_lint.proofs.TakenSteps.{met_next, taken_next}
use Rattle.fluent_lint.proofs.taken.push_taken.Goals as goal

pub loop-tile-preserved : goal.loop-tile-preserved
loop-tile-preserved c =
    let original = original_view c.args.original in
    let tiled = c.args.file.now in
    let file = file_view tiled.file in
    let i = c.loop-tile.tile-index in
    let item = c.tile-item.result in
    let inside : i < length tiled.tiles.items = subst (λ (ts : List Tile). i < length ts) c.deref-tile-items.ensures.value c.loop-tile-test.true in
    let is : item ≡ get_or tiled.tiles.items i item = c.tile-item.is ∙ ap (λ (ts : List Tile). get_or ts i item) c.deref-tile-items.ensures.value in (
      c.in_ok-add_tile.ensures.place,
      λ before first.
          let met = met_before original file before in
          let now = c.loop-tile.invariant.1 before first in (
            subst (AreMet c.add_tile.new.self c.add_tile.new.others)
                (met_next original file met tiled.tiles.items i item inside is)
                (c.in_ok-add_tile.ensures.met _ now.0),
            taken_next original file met tiled.tiles.items i item inside is
                (map finding_view c.args.findings.now.items) (map finding_view c.loop-tile.findings.items) (map finding_view c.add_tile.new.findings.items)
                (c.in_ok-add_tile.ensures.found _ now.0) now.1,
          ),
    )

pub returns-clause-added : goal.returns-clause-added
returns-clause-added c = λ before first.
    let original = original_view c.args.original in
    let tiled = c.args.file.now in
    let file = file_view tiled.file in
    let over : length tiled.tiles.items ≤ c.loop-tile.tile-index = subst (λ (ts : List Tile). length ts ≤ c.loop-tile.tile-index) c.deref-tile-items.ensures.value c.loop-tile-test.false in
    (c.loop-tile.invariant.1 before first).1
    ∙ ap (λ ps. map finding_view c.args.findings.now.items ++ taken_from original file (met_before original file before) ps)
    (ap (map tile_view) (take_all c.loop-tile.tile-index tiled.tiles.items over) ∙ c.requires.parts)

pub returns-clause-declared : goal.returns-clause-declared
returns-clause-declared c = λ before first.
    let original = original_view c.args.original in
    let tiled = c.args.file.now in
    let file = file_view tiled.file in
    let met = met_before original file before in
    let over : length tiled.tiles.items ≤ c.loop-tile.tile-index = subst (λ (ts : List Tile). length ts ≤ c.loop-tile.tile-index) c.deref-tile-items.ensures.value c.loop-tile-test.false in
    let met_now = (c.loop-tile.invariant.1 before first).0 in
    subst (λ ps. AreFirst c.loop-tile.others (met_through original file met ps).before)
    (ap (map tile_view) (take_all c.loop-tile.tile-index tiled.tiles.items over) ∙ c.requires.parts)
    met_now.before
