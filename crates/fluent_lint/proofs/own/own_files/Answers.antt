use Rattle.std.proofs.Common.{◌∙◌, ap, map, sym}
use Rattle.fluent_lint.specs.Own.{ids_of_tree, wide_of_tree}
use Rattle.fluent_lint.specs.Reading.{bare_tree, sources_of}
use Rattle.fluent_lint.proofs.OwnIds.{own_ids_are}
use Rattle.fluent_lint.proofs.Wide.{wide_ids_are}
use Rattle.fluent_lint.proofs.own.own_files.Goals as goal

pub returns-clause-own : goal.returns-clause-own
returns-clause-own c =
    let tiles = c.in_ok-tiles.tiles.items in
    let trees = c.args.read.now.trees.items in
    let same = c.requires.trees ∙ ap (λ fs. map bare_tree (sources_of fs)) (sym c.in_ok-tiles.ensures.files) in
    record {
      tiles = c.in_ok-tiles.ensures.tiles;
      ids = c.in_ok-ids.ensures
          ∙ ap (map ids_of_tree) c.deref.ensures.value
          ∙ own_ids_are trees tiles same;
      wide = c.in_ok-wide.ensures
          ∙ ap (λ ts. map (wide_of_tree ts) ts) c.deref-3.ensures.value
          ∙ wide_ids_are trees tiles same;
    }
