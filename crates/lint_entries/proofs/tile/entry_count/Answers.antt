use Rattle.std.proofs.Common.{◌≡◌, ◌∙◌, count_by, rules}
use Rattle.lint_entries.proofs.Parts.{entries_counted}
use Rattle.lint_entries.specs.TileView.{is_entry_part, tile_view}
use Rattle.lint_entries.proofs.tile.entry_count.Goals as goal

pub returns : goal.returns
returns c = λ source same.
    let counted : c.count.result ≡ count_by (λ tile. is_entry_part (tile_view tile)) c.args.tiles.now = search rules in
    counted ∙ entries_counted c.args.tiles.now source same
