-- The messages, the terms and the junk of a source.
use Rattle.std.specs.Prelude.{List, [], ◌∷◌, ◌++◌, Option, Some, None, map}
use Rattle.fluent_grammar.specs.Words.{Text}
use Rattle.fluent_grammar.specs.Tree as t
use Rattle.lint_findings.specs.Tiles.{Tile, entry_tile, junk_tile, tiles}

-- an entry of a tree that is kept: a message or a term, without the comment above it, or none for junk
abbrev pub kept_entry : t.Entry → List (Option t.Entry)
kept_entry (t.message m) = Some (t.message (record m { comment = None })) ∷ []
kept_entry (t.term m) = Some (t.term (record m { comment = None })) ∷ []
kept_entry (t.comment c) = []
kept_entry (t.group_comment c) = []
kept_entry (t.resource_comment c) = []
kept_entry (t.junk s) = None ∷ []

abbrev pub kept_entries : List t.Entry → List (Option t.Entry)
kept_entries [] = []
kept_entries (e ∷ es) = kept_entry e ++ kept_entries es

-- a tile that is kept
abbrev pub kept_tile : Tile → List Tile
kept_tile (entry_tile at s (t.message m)) = entry_tile at s (t.message m) ∷ []
kept_tile (entry_tile at s (t.term m)) = entry_tile at s (t.term m) ∷ []
kept_tile (entry_tile at s e) = []
kept_tile (junk_tile at s refusal) = junk_tile at s refusal ∷ []

abbrev pub kept_tiles : List Tile → List Tile
kept_tiles [] = []
kept_tiles (t ∷ ts) = kept_tile t ++ kept_tiles ts

abbrev pub entry_of_tile : Tile → Option t.Entry
entry_of_tile (entry_tile at s e) = Some e
entry_of_tile (junk_tile at s refusal) = None

-- a message or a term, with the source from there on, or junk
pub data Part : Type 0 where
  entry_part : Text → t.Entry → Part
  junk_part : Part

abbrev pub part_of_tile : Tile → Part
part_of_tile (entry_tile at s e) = entry_part s e
part_of_tile (junk_tile at s refusal) = junk_part

-- the messages, the terms and the junk of a source, in their order
abbrev pub parts : Text → List Part
parts source = map part_of_tile (kept_tiles (tiles source))
