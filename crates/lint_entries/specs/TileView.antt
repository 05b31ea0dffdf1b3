-- What the code's tiles stand for.
use Rattle.std.specs.Prelude.{◌≡◌, ℕ, Bool, true, false, List, map, count_by}
use Rattle.fluent_ast.specs.Borrowed.{entry_of}
use Rattle.lint_entries.specs.AttributePlaces.{IsEntryAt, uncommented}
use Rattle.lint_findings.specs.Summary as summary
use Rattle.lint_findings.specs.Tiles.{tiles}
use Rattle.fluent_grammar.specs.Tiling.{errors, tree}
use Rattle.fluent_grammar.specs.Tree as t
use Rattle.fluent_grammar.specs.Words.{Text}
use Rattle.fluent_parsed.specs.ErrorView.{error_told, error_view}
use Rattle.fluent_parsed.specs.declared.errors.ParserError.{ParserError}
use Rattle.lint_entries.specs.Kept.{Part, entry_part, junk_part, kept_entries, parts}
use Rattle.lint_entries.specs.declared.tile.Tile.{Tile}
use Rattle.lint_entries.specs.declared.tile.Tile.TheVariants as tile

abbrev pub tile_view : Tile → Part
tile_view (tile.Entry entry text) = entry_part text.now (uncommented (entry_of entry.now))
tile_view tile.Junk = junk_part

-- entries of a tree that are those of this source, but for comments
abbrev pub IsTreeOf : Text → List t.Entry → Type 0
IsTreeOf source es = kept_entries es ≡ kept_entries (tree source)

abbrev pub AreErrorsOf : Text → List ParserError → Type 0
AreErrorsOf source found = map error_view found ≡ map error_told (errors source)

-- the entry is read where it is
abbrev pub IsReadPart : Part → Type 0
IsReadPart (entry_part s e) = IsEntryAt e s
IsReadPart junk_part = Unit {0}

abbrev pub is_message_part : Part → Bool
is_message_part (entry_part s (t.message m)) = true
is_message_part _ = false

abbrev pub is_entry_part : Part → Bool
is_entry_part (entry_part s (t.message m)) = true
is_entry_part (entry_part s (t.term m)) = true
is_entry_part _ = false

-- if the tiles are those of a source, it has this many messages and terms
abbrev pub CountsEntries : List Tile → ℕ → Type 0
CountsEntries found count = (source : Text) → map tile_view found ≡ parts source → count ≡ count_by summary.has_id (tiles source)

-- and this many messages
abbrev pub CountsMessages : List Tile → ℕ → Type 0
CountsMessages found count = (source : Text) → map tile_view found ≡ parts source → count ≡ count_by summary.is_message (tiles source)
