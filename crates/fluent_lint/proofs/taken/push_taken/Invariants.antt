use Rattle.std.proofs.Common.{◌≡◌, ◌++◌, List, map, take}
use Rattle.lint_entries.specs.First.{AreFirst}
use Rattle.lint_entries.specs.TileView.{tile_view}
use Rattle.lint_findings.specs.PlaceView.{IsPlaceIn}
use Rattle.lint_findings.specs.View.{file_view, finding_view}
use Rattle.lint_findings.specs.DuplicateIds.{Declaration}
use Rattle.fluent_lint.specs.Taken.{met_before, met_through, taken_from}
use Rattle.fluent_lint.specs.TakenView.{AreMet, original_view}
use Rattle.fluent_lint.proofs.taken.push_taken.Given as goal

abbrev pub invariant-loop-tile : goal.invariant-loop-tile
invariant-loop-tile l =
    let original = original_view l.original in
    let file = file_view l.file.file in
    let so = map tile_view (take l.tile-index l.file.tiles.items) in
    IsPlaceIn l.file.file.source.now l.seen.place
    × ((before : List Declaration) → AreFirst l.initial.others before →
    AreMet l.seen l.others (met_through original file (met_before original file before) so)
    × (map finding_view l.findings.items ≡ map finding_view l.initial.findings.items ++ taken_from original file (met_before original file before) so))
