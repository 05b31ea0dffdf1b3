use Rattle.std.proofs.Common.{◌≡◌, map, take}
use Rattle.std.specs.List.{flat_map}
use Rattle.lint_findings.specs.View.{finding_view}
use Rattle.fluent_ids.specs.IdsView.{ids_view}
use Rattle.lint_comparison.specs.Missing.{missing_of_part}
use Rattle.lint_entries.specs.TileView.{tile_view}
use Rattle.lint_comparison.proofs.missing.missing_findings.Given as goal

abbrev pub invariant-loop-tile : goal.invariant-loop-tile
invariant-loop-tile l = map finding_view l.found.items ≡ flat_map (missing_of_part (ids_view (Unit {0}) l.ids) l.source) (map tile_view (take l.tile-index l.tiles))
