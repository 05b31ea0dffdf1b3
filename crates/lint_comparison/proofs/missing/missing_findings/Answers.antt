use Rattle.std.proofs.Common.{◌∙◌, ap, map}
use Rattle.std.specs.List.{flat_map}
use Rattle.std.proofs.lemmas.List.{take_all}
use Rattle.fluent_ids.specs.IdsView.{ids_view}
use Rattle.lint_entries.specs.TileView.{tile_view}
use Rattle.lint_comparison.specs.Missing.{missing_of_part}
use Rattle.lint_comparison.proofs.MissingParts.{of_parts}
use Rattle.lint_comparison.proofs.missing.missing_findings.Goals as goal

pub returns : goal.returns
returns c =
    let ids = ids_view (Unit {0}) c.args.ids.now in
    let source = c.args.source.now in
    let all = ap (map tile_view) (take_all c.loop-tile.tile-index c.args.tiles.now c.loop-tile-test.false) ∙ c.requires in
    c.loop-tile.invariant ∙ ap (flat_map (missing_of_part ids source)) all ∙ of_parts ids source
