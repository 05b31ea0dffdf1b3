-- The laws of reading and tiling, as statements.
use Rattle.std.specs.Prelude.{◌≡◌, ◌≢◌, ℕ, ◌-◌, ◌<◌, ◌≤◌, Bool, List, [], ◌∷◌, ◌++◌, length, take, drop, map, None, All, ◌↔◌}
use Rattle.fluent_grammar.specs.Words.{Text, skip_blank_block, rest_of_line}
use Rattle.fluent_grammar.specs.Tree as t
use Rattle.fluent_grammar.specs.Reading.{Readers, readers, identifier_at, number_at, attribute_at, placeable_at, pattern_at, attributes_at, comment_lines, entry_at}
use Rattle.fluent_grammar.specs.Tiling.{ParserError, behind_junk, pieces_from, runtime_pieces_from, tree, errors, runtime_tree, runtime_errors, listed, list}
use Rattle.fluent_grammar.specs.Blanks.{BlankBlock, Line}
use Rattle.fluent_grammar.specs.Recovery.{IsColumnZero, EndsJunk}
use Rattle.fluent_grammar.specs.Tiles.{Mode, full, runtime, Part, Tiles, text_of_part, text_of, tree_of, errors_in}
use Rattle.fluent_grammar.specs.Ends.{EndsIn, Within, Took, Told}
use Rattle.fluent_grammar.specs.Levels.{levels}

-- What a reader leaves, and the place of its refusal, is an end of the text that it was given. So it is for each reader,
-- for placeables and patterns, for entries and for what attributes leave.
pub record StaysWithin (inside : Readers) (text : Text) : Type 0 where
  pub inline : Within (inside.inline text) text
  pub arguments : (names : List Text) → Within (inside.arguments names text) text
  pub variants : (marked : Bool) → Within (inside.variants marked text) text
  pub line : Within (inside.line text) text
  pub pieces : Within (inside.pieces text) text
  pub placeable : Within (placeable_at inside text) text
  pub pattern : Within (pattern_at inside text) text

abbrev pub ReadersStayWithin : Type 0
ReadersStayWithin = (n : ℕ) (text : Text) → StaysWithin (readers n) text

abbrev pub EntriesStayWithin : Type 0
EntriesStayWithin = (text : Text) → Within (entry_at text) text

abbrev pub AttributesStayWithin : Type 0
AttributesStayWithin = (n : ℕ) (text : Text) → EndsIn (attributes_at n text).1 text

-- An expression, what is left of call arguments (their closing parenthesis, at least) and a placeable have a byte or more.
pub record TakesSome (inside : Readers) (text : Text) : Type 0 where
  pub inline : Took (inside.inline text) text
  pub arguments : (names : List Text) → Took (inside.arguments names text) text
  pub placeable : Took (placeable_at inside text) text

abbrev pub ReadersTakeSome : Type 0
ReadersTakeSome = (n : ℕ) (text : Text) → TakesSome (readers n) text

-- So have an identifier, a number literal, an attribute and an entry.
abbrev pub NamesTakeSome : Type 0
NamesTakeSome = (text : Text) → Took (identifier_at text) text

abbrev pub NumbersTakeSome : Type 0
NumbersTakeSome = (text : Text) → Took (number_at text) text

abbrev pub AttributesTakeSome : Type 0
AttributesTakeSome = (text : Text) → Took (attribute_at text) text

abbrev pub EntriesTakeSome : Type 0
EntriesTakeSome = (text : Text) → Took (entry_at text) text

-- two readers say the same of a text
pub record ReadAlike (a b : Readers) (text : Text) : Type 0 where
  pub inline : a.inline text ≡ b.inline text
  pub arguments : (names : List Text) → a.arguments names text ≡ b.arguments names text
  pub variants : (marked : Bool) → a.variants marked text ≡ b.variants marked text
  pub line : a.line text ≡ b.line text
  pub pieces : a.pieces text ≡ b.pieces text

-- A text is read in full by readers of more levels than it has bytes.
abbrev pub LevelsAreEnough : Type 0
LevelsAreEnough = (m n : ℕ) (text : Text) → length text < m → length text < n → ReadAlike (readers m) (readers n) text

-- So what stands below those levels is never asked: it may be anything.
abbrev pub BottomIsNeverAsked : Type 0
BottomIsNeverAsked = (bottom : Readers) (m n : ℕ) (text : Text) → length text < m → length text < n → ReadAlike (readers m) (levels bottom n) text

-- As many levels as a text has bytes are enough for a pattern, which asks its readers of shorter texts alone.
abbrev pub PatternsNeedNoMoreLevels : Type 0
PatternsNeedNoMoreLevels = (m n : ℕ) (text : Text) → length text ≤ m → length text ≤ n → pattern_at (readers m) text ≡ pattern_at (readers n) text

abbrev pub PatternsNeverAskTheBottom : Type 0
PatternsNeverAskTheBottom = (bottom : Readers) (m n : ℕ) (text : Text) → length text ≤ m → length text ≤ n → pattern_at (readers m) text ≡ pattern_at (levels bottom n) text

-- as many steps as a text has bytes are enough for its attributes
abbrev pub AttributesNeedNoMoreSteps : Type 0
AttributesNeedNoMoreSteps = (m n : ℕ) (text : Text) → length text ≤ m → length text ≤ n → attributes_at m text ≡ attributes_at n text

-- and for the lines of a comment
abbrev pub CommentsNeedNoMoreSteps : Type 0
CommentsNeedNoMoreSteps = (m n level : ℕ) (text : Text) → length text ≤ m → length text ≤ n → comment_lines m level text ≡ comment_lines n level text

-- Each text has a tiling, in full and for runtime use, and no other.
abbrev pub EachTextHasATiling : Type 0
EachTextHasATiling = (mode : Mode) (text : Text) → (parts : List Part) × Tiles mode parts text

abbrev pub NoTextHasTwoTilings : Type 0
NoTextHasTwoTilings = (mode : Mode) (text : Text) (parts others : List Part) → Tiles mode parts text → Tiles mode others text → parts ≡ others

-- The parts of a tiling, put together, are the text.
abbrev pub PartsAreTheText : Type 0
PartsAreTheText = (mode : Mode) (text : Text) (parts : List Part) → Tiles mode parts text → text_of parts ≡ text

-- the tree and the errors of a source, in full and for runtime use
abbrev pub tree_for : Mode → Text → List t.Entry
tree_for full source = tree source
tree_for runtime source = runtime_tree source

abbrev pub errors_for : Mode → Text → List ParserError
errors_for full source = errors source
errors_for runtime source = runtime_errors source

-- The tree and the errors are those of the tiling.
abbrev pub TilingGivesTreeAndErrors : Type 0
TilingGivesTreeAndErrors = (mode : Mode) (source : Text) (parts : List Part) → Tiles mode parts source →
    (tree_of mode parts ≡ tree_for mode source) × (errors_in mode parts ≡ errors_for mode source)

-- the contents of the junk among entries
abbrev pub junk_of : List t.Entry → List Text
junk_of [] = []
junk_of (t.junk content ∷ entries) = content ∷ junk_of entries
junk_of (_ ∷ entries) = junk_of entries

-- what stands in a source where an error's slice is
abbrev pub sliced : Text → ParserError → Text
sliced source error = take (error.slice_end - error.slice_start) (drop error.slice_start source)

-- There are as many errors as junk entries, in the same order, and the content of each junk is its error's slice of the source.
abbrev pub JunkIsSliced : Type 0
JunkIsSliced = (mode : Mode) (source : Text) → junk_of (tree_for mode source) ≡ map (sliced source) (errors_for mode source)

-- Slices within these bounds, none of which is empty: each begins where the one before it ends, or later.
abbrev pub Ascend : ℕ → List ParserError → ℕ → Type 0
Ascend from [] end = from ≤ end
Ascend from (error ∷ errors) end = (from ≤ error.slice_start) × (error.slice_start < error.slice_end) × Ascend error.slice_end errors end

abbrev pub SlicesAscend : Type 0
SlicesAscend = (mode : Mode) (source : Text) → Ascend 0 (errors_for mode source) (length source)

-- an error's place begins in its slice or at the slice's end
abbrev pub StartsInSlice : ParserError → Type 0
StartsInSlice error = (error.slice_start ≤ error.pos_start) × (error.pos_start ≤ error.slice_end)

abbrev pub PlacesStartInSlices : Type 0
PlacesStartInSlices = (mode : Mode) (source : Text) → All StartsInSlice (errors_for mode source)

-- What an error says of the byte at its place is so.
abbrev pub ErrorsAreTrue : Type 0
ErrorsAreTrue = (mode : Mode) (source : Text) → All (λ error. Told error.kind (drop error.pos_start source)) (errors_for mode source)

-- The messages and terms for runtime use are those of the full reading, comments set aside.
abbrev pub RuntimeHasTheSameList : Type 0
RuntimeHasTheSameList = (source : Text) → listed (runtime_tree source) ≡ list source

-- If the full reading has no junk, and so no error, that for runtime use has none.
abbrev pub RuntimeAddsNoJunk : Type 0
RuntimeAddsNoJunk = (source : Text) → errors source ≡ [] → runtime_errors source ≡ []

-- As many steps as a text has bytes, and one, are enough for its pieces, in full and for runtime use.
abbrev pub PiecesNeedNoMoreSteps : Type 0
PiecesNeedNoMoreSteps = (m n at : ℕ) (text : Text) → length text < m → length text < n →
    (pieces_from m at text ≡ pieces_from n at text) × (runtime_pieces_from m at text ≡ runtime_pieces_from n at text)

-- What is looked for after a refusal is where the junk ends, and junk has one end.
abbrev pub RecoveryFindsTheEnd : Type 0
RecoveryFindsTheEnd = (text place rest : Text) → EndsIn place text → (EndsJunk text place rest ↔ (behind_junk text place ≡ rest))

-- an entry that is no comment and has none
abbrev pub HasNoComment : t.Entry → Type 0
HasNoComment (t.message m) = m.comment ≡ None
HasNoComment (t.term m) = m.comment ≡ None
HasNoComment (t.junk content) = Unit {0}
HasNoComment _ = ⊥

-- The tree for runtime use has no comments.
abbrev pub RuntimeHasNoComments : Type 0
RuntimeHasNoComments = (source : Text) → All HasNoComment (runtime_tree source)

-- What is skipped for a blank block is one, and there is no other.
abbrev pub BlankBlocksAreSkipped : Type 0
BlankBlocksAreSkipped = (text rest : Text) → ((blanks : Text) × BlankBlock blanks text rest) ↔ (skip_blank_block text ≡ rest)

-- What is left after a line is what is after its line feed.
abbrev pub LinesAreLeft : Type 0
LinesAreLeft = (text rest : Text) → ((line : Text) × Line line text rest) ↔ ((rest_of_line text).1 ≡ rest)

-- Each part of a tiling that isn't empty begins at column 0.
abbrev pub PartsBeginAtColumnZero : Type 0
PartsBeginAtColumnZero = (mode : Mode) (source : Text) (before : List Part) (part : Part) (behind : List Part) →
    Tiles mode (before ++ part ∷ behind) source → text_of_part part ≢ [] → IsColumnZero (text_of before)
