-- Files with their tiles.
use Rattle.std.specs.Prelude.{◌≡◌, All, List, map}
use Rattle.lint_findings.specs.View.{file_view}
use Rattle.lint_findings.specs.declared.records.File.{File}
use Rattle.lint_findings.specs.Files as f
use Rattle.lint_entries.specs.Kept.{parts}
use Rattle.lint_entries.specs.TileView.{AreErrorsOf, IsReadPart, tile_view}
use Rattle.fluent_lint.specs.declared.tiles.FileTiles.{FileTiles}

-- the tiles and the errors of a file are those of its source
pub record AreTilesOf (tiled : FileTiles) : Type 0 where
  pub parts : map tile_view tiled.tiles.items ≡ parts tiled.file.source.now
  pub read : All IsReadPart (map tile_view tiled.tiles.items)
  pub errors : AreErrorsOf tiled.file.source.now tiled.errors.now

abbrev pub files_of : List FileTiles → List File
files_of tiled = map (λ (t : FileTiles). t.file) tiled

abbrev pub files_view : List File → List f.File
files_view files = map file_view files
