use Rattle.std.proofs.Common.{map, take}
use Rattle.lint_entries.specs.TileView.{tile_view}
use Rattle.lint_findings.specs.View.{file_view}
use Rattle.fluent_lint.specs.MessagePlaces.{GetsPlaces}
use Rattle.fluent_lint.specs.Pairs.{places_of_parts}
use Rattle.fluent_lint.proofs.message_places.MessagePlaces.add_tiles.Given as goal

-- those of the tiles so far were added
abbrev pub invariant-loop-tile : goal.invariant-loop-tile
invariant-loop-tile l = GetsPlaces l.fn.self (places_of_parts (file_view l.file) (map tile_view (take l.tile-index l.tiles))) l.self
