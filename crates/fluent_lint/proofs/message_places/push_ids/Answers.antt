use Rattle.std.proofs.Common.{◌∙◌, ap, map, subst, sym}
use Rattle.std.proofs.lemmas.List.{take_all}
use Rattle.lint_nodes.specs.HasNames.{HasNames}
use Rattle.lint_nodes.proofs.Unions.{union-append}
use Rattle.lint_entries.specs.TileView.{tile_view}
use Rattle.lint_findings.specs.Comparison.{union}
use Rattle.fluent_lint.specs.MessagePlaces.{GetsIds}
use Rattle.fluent_lint.specs.Pairs.{id_of_part, ids_of_parts}
use Rattle.fluent_lint.proofs.Loops.{front_flat}
use Rattle.fluent_lint.proofs.message_places.push_ids.Goals as goal

pub loop-tile-init : goal.loop-tile-init
loop-tile-init c = λ xs has. has

pub loop-tile-preserved : goal.loop-tile-preserved
loop-tile-preserved c = λ xs has.
    let i = c.loop-tile.tile-index in
    let tiles = c.args.tiles.now in
    let item = c.tile-item.result in
    subst (HasNames c.push_id.new.ids)
    (sym (union-append xs _ _) ∙ ap (union xs) (front_flat tiles i item c.loop-tile-test.true c.tile-item.is tile_view id_of_part))
    (c.in_ok-push_id.ensures _ (c.loop-tile.invariant xs has))

pub returns : goal.returns
returns c =
    subst (λ l. GetsIds c.args.ids.now (ids_of_parts (map tile_view l)) c.loop-tile.ids)
    (take_all c.loop-tile.tile-index c.args.tiles.now c.loop-tile-test.false) c.loop-tile.invariant
