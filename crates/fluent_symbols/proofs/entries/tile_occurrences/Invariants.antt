use Rattle.std.proofs.Common.{◌≡◌, ◌++◌, map, drop}
use Rattle.lint_entries.specs.TileView.{tile_view}
use Rattle.fluent_symbols.specs.OccurrenceView.{occurrence_view}
use Rattle.fluent_symbols.specs.Sources.{in_parts}
use Rattle.fluent_symbols.proofs.entries.tile_occurrences.Given as goal

abbrev pub invariant-loop-tile : goal.invariant-loop-tile
invariant-loop-tile l =
    map occurrence_view l.found.items ++ in_parts (map tile_view (drop l.tile-index l.tiles)) ≡ in_parts (map tile_view l.tiles)
