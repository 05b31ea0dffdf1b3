-- The tiling of a source: blank blocks, and between them entries and junk. It is a relation: nothing here bounds a depth,
-- and no place is counted from the source's start.
use Rattle.std.specs.Prelude.{◌≡◌, ◌≢◌, ℕ, ◌+◌, Bool, true, false, not, ◌==◌, if◌then◌else◌, List, [], ◌∷◌, ◌++◌, length, None}
use Rattle.fluent_grammar.specs.Words.{Text, number_sign, begins_with}
use Rattle.fluent_grammar.specs.Refusal.{Kind, Refusal, refused}
use Rattle.fluent_grammar.specs.Tree as t
use Rattle.fluent_grammar.specs.Spelling.{SpellsEntry}
use Rattle.fluent_grammar.specs.Reading.{entry_at}
use Rattle.fluent_grammar.specs.Blanks.{BlankBlock, Line}
use Rattle.fluent_grammar.specs.Recovery.{EndsJunk}
use Rattle.fluent_grammar.specs.Tiling as p
use Rattle.fluent_grammar.specs.Tiling.{ParserError, is_field_kind, entries_of, errors_of}

-- in full, or for runtime use, in which each line that would begin an entry with `#` is passed over
pub data Mode : Type 0 where
  full : Mode
  runtime : Mode

-- whether the line at the front is passed over
abbrev pub passes_over : Mode → Text → Bool
passes_over full text = false
passes_over runtime text = begins_with number_sign text

-- A part of a source, with its text. Junk also has why its entry isn't read, and how many of its bytes stand before the
-- place of that refusal.
pub data Part : Type 0 where
  blank_block : Text → Part
  entry : Text → t.Entry → Part
  junk : Text → Kind → ℕ → Part
  passed_over : Text → Part

mutual
  -- a blank block, as long as it can be, and what follows it
  pub data Tiles (mode : Mode) : List Part → Text → Type 0 where
    blank_first : {text blanks rest : Text} {parts : List Part} → BlankBlock blanks text rest → TilesItems mode parts rest →
        Tiles mode (blank_block blanks ∷ parts) text

  -- the end, or an entry, junk or a line that is passed over, and what follows it
  pub data TilesItems (mode : Mode) : List Part → Text → Type 0 where
    source_ends : TilesItems mode [] []
    an_entry : {text front rest : Text} {e : t.Entry} {parts : List Part} → passes_over mode text ≡ false → SpellsEntry e text rest →
        text ≡ front ++ rest → Tiles mode parts rest → TilesItems mode (entry front e ∷ parts) text
    some_junk : {text front rest : Text} {fault : Refusal} {place : ℕ} {parts : List Part} → passes_over mode text ≡ false → text ≢ [] →
        entry_at text ≡ refused fault → place + length fault.at ≡ length text → EndsJunk text fault.at rest → text ≡ front ++ rest →
        Tiles mode parts rest → TilesItems mode (junk front fault.kind place ∷ parts) text
    a_line : {text front rest : Text} {parts : List Part} → passes_over mode text ≡ true → Line front text rest →
        Tiles mode parts rest → TilesItems mode (passed_over front ∷ parts) text

-- the text of a part, and of parts put together
abbrev pub text_of_part : Part → Text
text_of_part (blank_block text) = text
text_of_part (entry text e) = text
text_of_part (junk text kind place) = text
text_of_part (passed_over text) = text

abbrev pub text_of : List Part → Text
text_of [] = []
text_of (part ∷ parts) = text_of_part part ++ text_of parts

-- the error of junk that begins at this offset
abbrev pub error_of_junk : ℕ → Text → Kind → ℕ → ParserError
error_of_junk at text kind place =
    if is_field_kind kind
    then record { kind = kind; pos_start = at; pos_end = at + place; slice_start = at; slice_end = at + length text }
    else record { kind = kind; pos_start = at + place; pos_end = at + place + 1; slice_start = at; slice_end = at + length text }

-- whether a comment's next entry lies apart from it; if comments are passed over it doesn't matter
abbrev pub lies_apart : Mode → Text → Bool
lies_apart full blanks = not (length blanks == 0)
lies_apart runtime blanks = false

-- The pieces of parts that begin at this offset, after a blank line or not.
abbrev pub pieces_of : Mode → ℕ → Bool → List Part → List p.Piece
pieces_of mode at apart [] = []
pieces_of mode at apart (blank_block text ∷ parts) = pieces_of mode (at + length text) (lies_apart mode text) parts
pieces_of mode at apart (entry text e ∷ parts) = p.entry apart e ∷ pieces_of mode (at + length text) false parts
pieces_of mode at apart (junk text kind place ∷ parts) = p.junk text (error_of_junk at text kind place) ∷ pieces_of mode (at + length text) false parts
pieces_of mode at apart (passed_over text ∷ parts) = pieces_of mode (at + length text) false parts

-- the entries of a tiling, and its errors
abbrev pub tree_of : Mode → List Part → List t.Entry
tree_of mode parts = entries_of None (pieces_of mode 0 false parts)

abbrev pub errors_in : Mode → List Part → List ParserError
errors_in mode parts = errors_of (pieces_of mode 0 false parts)
