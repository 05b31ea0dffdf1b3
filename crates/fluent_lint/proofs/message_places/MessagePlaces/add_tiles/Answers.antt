use Rattle.std.proofs.Common.{◌∙◌, ◌++◌, ap, map, subst, sym, append-nil, append_assoc}
use Rattle.std.proofs.lemmas.List.{take_all}
use Rattle.lint_entries.specs.TileView.{tile_view}
use Rattle.lint_findings.specs.View.{file_view}
use Rattle.fluent_lint.specs.MessagePlaces.{GetsPlaces, HasPlaces}
use Rattle.fluent_lint.specs.Pairs.{message_place, places_of_parts}
use Rattle.fluent_lint.proofs.Loops.{front_flat}
use Rattle.fluent_lint.proofs.message_places.MessagePlaces.add_tiles.Goals as goal

pub loop-tile-init : goal.loop-tile-init
loop-tile-init c = λ ps has. subst (HasPlaces c.args.self.now) (sym (append-nil ps)) has

pub loop-tile-preserved : goal.loop-tile-preserved
loop-tile-preserved c = λ ps has.
    let file = file_view c.args.file in
    let i = c.loop-tile.tile-index in
    let tiles = c.args.tiles.now in
    let item = c.tile-item.result in
    subst (HasPlaces c.add_tile.new.self)
    (append_assoc ps _ _ ∙ ap (λ l. ps ++ l) (front_flat tiles i item c.loop-tile-test.true c.tile-item.is tile_view (message_place file)))
    (c.in_ok-add_tile.ensures _ (c.loop-tile.invariant ps has))

pub returns : goal.returns
returns c =
    subst (λ l. GetsPlaces c.args.self.now (places_of_parts (file_view c.args.file) (map tile_view l)) c.loop-tile.self)
    (take_all c.loop-tile.tile-index c.args.tiles.now c.loop-tile-test.false) c.loop-tile.invariant
