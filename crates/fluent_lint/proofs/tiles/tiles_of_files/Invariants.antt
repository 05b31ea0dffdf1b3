use Rattle.std.proofs.Common.{◌≡◌, take}
use Rattle.std.specs.Prelude.{All}
use Rattle.fluent_lint.specs.FileTiles.{AreTilesOf, files_of}
use Rattle.fluent_lint.proofs.tiles.tiles_of_files.Given as goal

abbrev pub invariant-loop-index : goal.invariant-loop-index
invariant-loop-index l = record {
  files : files_of l.tiled.items ≡ take l.index l.read.files.now;
  tiles : All AreTilesOf l.tiled.items;
}
