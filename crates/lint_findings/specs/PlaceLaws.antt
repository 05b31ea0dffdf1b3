-- Laws of places: of positions, of what is in a source, and of the patterns and nodes of its entries.
use Rattle.std.specs.Prelude.{◌≡◌, ℕ, List, [], ◌∷◌, map, All}
use Rattle.std.specs.Str.{IsUtf8, IsCharBoundary}
use Rattle.fluent_grammar.specs.Words.{Text}
use Rattle.fluent_grammar.specs.Tree as t
use Rattle.fluent_grammar.specs.Tree.{Elements}
use Rattle.fluent_grammar.specs.Refusal.{got}
use Rattle.fluent_grammar.specs.Ends.{EndsIn}
use Rattle.fluent_grammar.specs.Reading.{entry_at, key_at}
use Rattle.fluent_grammar.specs.Tiling.{ParserError, error_of, errors, listed, list}
use Rattle.lint_findings.specs.Position.{position_of}
use Rattle.lint_findings.specs.Tiles.{Tile, entry_tile, junk_tile, tiles}
use Rattle.lint_findings.specs.Flaws.{Owner, entry_patterns}
use Rattle.lint_findings.specs.Nodes.{Node, expression, select, repeated_key, elements_nodes}
use Rattle.lint_findings.specs.Occurrences.{Occurrence, occurrences, inline_read, pattern_read, PatternPlace}
use Rattle.lint_findings.specs.EntryFindings.{pattern_places}

-- ---- positions

-- No two offsets between characters have the same position.
abbrev pub PositionsDetermineOffsets : Type 0
PositionsDetermineOffsets = (source : Text) (p q : ℕ) → IsUtf8 source → IsCharBoundary source p → IsCharBoundary source q →
    position_of source p ≡ position_of source q → p ≡ q

-- ---- tiles

-- the entries among tiles
abbrev pub tile_entries : List Tile → List t.Entry
tile_entries [] = []
tile_entries (entry_tile at s e ∷ rest) = e ∷ tile_entries rest
tile_entries (junk_tile at s refusal ∷ rest) = tile_entries rest

-- The messages and terms among the tiles of a source are those of its tree, in the same order.
abbrev pub TilesAreTheList : Type 0
TilesAreTheList = (source : Text) → listed (tile_entries (tiles source)) ≡ list source

-- the errors of the junk among tiles
abbrev pub tile_errors : List Tile → List ParserError
tile_errors [] = []
tile_errors (entry_tile at s e ∷ rest) = tile_errors rest
tile_errors (junk_tile at s refusal ∷ rest) = error_of at s refusal ∷ tile_errors rest

-- Those of the junk among the tiles of a source are the errors that the parser reports, in the same order.
abbrev pub TilesHaveTheErrors : Type 0
TilesHaveTheErrors = (source : Text) → tile_errors (tiles source) ≡ errors source

-- ---- occurrences

-- an expression, or the key of a variant, is read at the front of a text
abbrev pub IsReadAt : Text → Node → Type 0
IsReadAt at (expression i) = (rest : Text) × (inline_read at ≡ got i rest)
IsReadAt at (select i vs) = Unit {0}
IsReadAt at (repeated_key k) = (rest : Text) × (key_at at ≡ got k rest)

-- a node is at an end of a text, where it is read
pub record IsReadIn (s : Text) (o : Occurrence) : Type 0 where
  pub place : EndsIn o.at s
  pub read : IsReadAt o.at o.node

-- Each expression and each key that the walk through a pattern lists is read at its place, which is an end of the text.
abbrev pub OccurrencesAreRead : Type 0
OccurrencesAreRead = (s : Text) → All (IsReadIn s) (occurrences s)

abbrev pub nodes : List Occurrence → List Node
nodes os = map (λ (o : Occurrence). o.node) os

-- The walk through a pattern lists its nodes, in their order.
abbrev pub OccurrencesAreTheNodes : Type 0
OccurrencesAreTheNodes = (s : Text) (es : Elements) (rest : Text) → pattern_read s ≡ got es rest →
    nodes (occurrences s) ≡ elements_nodes es

-- Each of these patterns is read at its place, and is that of the same attribute, or of none.
abbrev pub ArePatternsAt : List PatternPlace → List (Owner × Elements) → Type 0
ArePatternsAt [] [] = Unit {0}
ArePatternsAt (place ∷ places) (p ∷ ps) =
    (place.attribute ≡ p.0.attribute) × ((rest : Text) × (pattern_read place.pattern_at ≡ got p.1 rest)) × ArePatternsAt places ps
ArePatternsAt _ _ = ⊥

-- An entry has a place for each of its patterns, where that pattern is read.
abbrev pub PatternsHavePlaces : Type 0
PatternsHavePlaces = (s : Text) (e : t.Entry) (rest : Text) → entry_at s ≡ got e rest → ArePatternsAt (pattern_places e s) (entry_patterns e)
