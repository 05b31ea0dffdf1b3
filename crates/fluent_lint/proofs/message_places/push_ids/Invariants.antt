use Rattle.std.proofs.Common.{map, take}
use Rattle.lint_entries.specs.TileView.{tile_view}
use Rattle.fluent_lint.specs.MessagePlaces.{GetsIds}
use Rattle.fluent_lint.specs.Pairs.{ids_of_parts}
use Rattle.fluent_lint.proofs.message_places.push_ids.Given as goal

-- those of the tiles so far were added
abbrev pub invariant-loop-tile : goal.invariant-loop-tile
invariant-loop-tile l = GetsIds l.fn.ids (ids_of_parts (map tile_view (take l.tile-index l.tiles))) l.ids
