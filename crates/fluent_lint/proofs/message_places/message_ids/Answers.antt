use Rattle.std.proofs.Common.{◌∙◌, [], ap, map, subst}
use Rattle.lint_nodes.specs.HasNames.{HasNames}
use Rattle.lint_entries.specs.TileView.{tile_view}
use Rattle.lint_findings.specs.Comparison.{union}
use Rattle.fluent_lint.specs.Pairs.{ids_of_parts}
use Rattle.fluent_lint.proofs.message_places.message_ids.Goals as goal

pub returns : goal.returns
returns c =
    subst (λ ps. HasNames c.push_ids.new.ids (union [] (ids_of_parts ps)))
    (ap (map tile_view) c.deref.ensures.value ∙ c.requires.parts)
    (c.in_ok-push_ids.ensures [] c.new-ids.ensures)
