use Rattle.std.proofs.Common.{◌≡◌, ◌++◌, List, drop, map, take}
use Rattle.lint_files.specs.PartFindings.{declared_by_parts}
use Rattle.lint_files.specs.Pushes.{IsCursorIn, found_from}
use Rattle.lint_files.specs.RulesView.{rules_view}
use Rattle.lint_entries.specs.First.{AreFirst}
use Rattle.lint_findings.specs.View.{file_view, finding_view}
use Rattle.lint_findings.specs.DuplicateIds.{Declaration}
use Rattle.lint_entries.specs.TileView.{tile_view}
use Rattle.lint_files.proofs.cursor.push_tiles.Given as goal

abbrev pub invariant-loop-tile : goal.invariant-loop-tile
invariant-loop-tile l =
    let rules = rules_view l.rules in
    let start = l.initial.cursor in
    let done = declared_by_parts (file_view start.file) (map tile_view (take l.tile-index l.tiles)) in
    IsCursorIn l.cursor
    × (l.cursor.file ≡ start.file)
    × ((before : List Declaration) → AreFirst l.initial.declarations before →
    AreFirst l.declarations (before ++ done)
    × (map finding_view l.findings.items ++ found_from rules l.cursor (before ++ done) (map tile_view (drop l.tile-index l.tiles))
    ≡ map finding_view l.initial.findings.items ++ found_from rules start before (map tile_view l.tiles)))
