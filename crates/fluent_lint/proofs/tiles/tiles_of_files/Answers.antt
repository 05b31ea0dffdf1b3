use Rattle.std.proofs.Common.{◌∙◌, ◌++◌, ◌∷◌, [], ap, map}
use Rattle.std.proofs.lemmas.List.Elements.{All-push, All-same}
use Rattle.fluent_ast.specs.Borrowed.{entries_of}
use Rattle.fluent_parsed.specs.ErrorView.{error_view}
use Rattle.fluent_lint.specs.FileTiles.{AreTilesOf}
use Rattle.fluent_lint.specs.Reading.{bare_tree, errors_told, errors_view}
use Rattle.fluent_lint.proofs.FilesFound.{one_tiled}
use Rattle.fluent_lint.proofs.Trees.{read_at}
use Rattle.fluent_lint.proofs.tiles.tiles_of_files.Goals as goal

pub tiles_of_file-requires-clause-tree : goal.tiles_of_file-requires-clause-tree
tiles_of_file-requires-clause-tree c =
    ap entries_of c.index.ensures
    ∙ read_at entries_of bare_tree c.args.read.now.trees.items c.args.read.now.files.now c.requires.trees c.loop-index.index _ _ c.loop-index-test.true

pub tiles_of_file-requires-clause-errors : goal.tiles_of_file-requires-clause-errors
tiles_of_file-requires-clause-errors c =
    ap (map error_view) c.deref.ensures.value
    ∙ ap errors_view c.index-in-loop-index.ensures
    ∙ read_at errors_view errors_told c.args.read.now.errors.items c.args.read.now.files.now c.requires.errors c.loop-index.index _ _ c.loop-index-test.true

pub loop-index-preserved : goal.loop-index-preserved
loop-index-preserved c =
    let old = c.loop-index.tiled.items in
    let one = c.in_ok-tiles.tiles in
    record {
      files = one_tiled old c.push.new.self.items one c.args.read.now.files.now c.loop-index.index _ c.loop-index-test.true c.in_ok-push.ensures.items c.in_ok-tiles.ensures.file c.loop-index.invariant.files;
      tiles = All-same AreTilesOf c.push.new.self.items (old ++ one ∷ []) c.in_ok-push.ensures.items (All-push AreTilesOf old one c.loop-index.invariant.tiles c.in_ok-tiles.ensures.tiles);
    }
