use Rattle.std.proofs.Common.{◌∙◌, [], ap, map, subst}
use Rattle.lint_entries.specs.TileView.{tile_view}
use Rattle.lint_findings.specs.View.{file_view}
use Rattle.fluent_lint.specs.MessagePlaces.{HasPlaces}
use Rattle.fluent_lint.specs.Pairs.{places_of_parts}
use Rattle.fluent_lint.proofs.message_places.MessagePlaces.of_file.Goals as goal

pub returns : goal.returns
returns c =
    let file = file_view c.args.file.now.file in
    subst (λ ps. HasPlaces c.add_tiles.new.self (places_of_parts file ps))
    (ap (map tile_view) c.deref.ensures.value ∙ c.requires.parts)
    (c.in_ok-add_tiles.ensures [] c.new-places.ensures)
