-- What is left of a source, while its tiles are gone through.
use Rattle.std.specs.Prelude.{◌≡◌, ℕ, List, drop}
use Rattle.fluent_grammar.specs.Words.{Text}
use Rattle.lint_findings.specs.Tiles.{Tile, tiles_from}
use Rattle.lint_entries.specs.Kept.{kept_tiles}

-- These are the messages, the terms and the junk of the rest of a source.
pub record AreAhead (source rest : Text) (ahead : List Tile) : Type 0 where
  pub steps : ℕ
  pub at : ℕ
  pub there : rest ≡ drop at source
  pub tiles : ahead ≡ kept_tiles (tiles_from steps at rest)
