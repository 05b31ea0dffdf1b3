-- The entries and the junk of a source, with their offsets.
use Rattle.std.specs.Prelude.{ℕ, zero, suc, ◌+◌, ◌-◌, ◌==◌, if◌then◌else◌, List, [], ◌∷◌, length}
use Rattle.fluent_grammar.specs.Words.{Text, skip_blank_block}
use Rattle.fluent_grammar.specs.Refusal.{Refusal, Reading, got, refused}
use Rattle.fluent_grammar.specs.Tree as t
use Rattle.fluent_grammar.specs.Reading.{entry_at}
use Rattle.fluent_grammar.specs.Tiling.{behind_junk}

-- An entry, or junk with the refusal that made it. Both have their offset, and the source from there on.
pub data Tile : Type 0 where
  entry_tile : ℕ → Text → t.Entry → Tile
  junk_tile : ℕ → Text → Refusal → Tile

-- the tile at the front of a text that begins at this offset, and the tiles after it
abbrev pub and_tiles : (ℕ → Text → List Tile) → ℕ → Text → Reading t.Entry → List Tile
and_tiles left at s (got e rest) = entry_tile at s e ∷ left (at + (length s - length rest)) rest
and_tiles left at s (refused refusal) =
    let rest = behind_junk s refusal.at in junk_tile at s refusal ∷ left (at + (length s - length rest)) rest

unfoldable pub tiles_from : ℕ → ℕ → Text → List Tile
tiles_from zero at s = []
tiles_from (suc n) at s =
    let u = skip_blank_block s in
    let here = at + (length s - length u) in
    if length u == 0 then [] else and_tiles (tiles_from n) here u (entry_at u)

-- the tiles of a source, without its blank blocks
abbrev pub tiles : Text → List Tile
tiles source = tiles_from (suc (length source)) 0 source
