use Rattle.std.proofs.Common.{◌≡◌, ◌++◌, List, drop, map}
use Rattle.fluent_ast.specs.Borrowed.{entry_of}
use Rattle.lint_findings.specs.Tiles as of_source
use Rattle.lint_entries.specs.Kept.{entry_of_tile, kept_entries, part_of_tile, parts}
use Rattle.lint_entries.specs.TileView.{tile_view}
use Rattle.lint_entries.specs.Walks.{IsBefore}
use Rattle.lint_entries.proofs.tile.source_tiles.Given as goal

abbrev pub invariant-loop-entry : goal.invariant-loop-entry
invariant-loop-entry l = (ahead : List of_source.Tile) × IsBefore l.walk ahead
    × (map entry_of_tile ahead ≡ kept_entries (map entry_of (drop l.entry-index l.entry-items)))
    × (map tile_view l.tiles.items ++ map part_of_tile ahead ≡ parts l.source)
