use Rattle.std.proofs.Common.{◌≡◌, [], ◌++◌, map, take}
use Rattle.lint_nodes.specs.HasNames.{HasNames}
use Rattle.lint_entries.specs.TileView.{tile_view}
use Rattle.lint_findings.specs.View.{finding_view}
use Rattle.fluent_lint.specs.Own.{compared_in}
use Rattle.fluent_lint.specs.Shown.{of_firsts}
use Rattle.fluent_lint.proofs.FirstParts.{ids_through}
use Rattle.fluent_lint.proofs.differences.push_differences.Given as goal

abbrev pub invariant-loop-tile : goal.invariant-loop-tile
invariant-loop-tile l =
    let so = map tile_view (take l.tile-index l.file.tiles.now.tiles.items) in
    HasNames l.ids (ids_through [] so)
    × (map finding_view l.findings.items ≡ map finding_view l.initial.findings.items ++ of_firsts (compared_in l.plurals l.file l.original) [] so)
