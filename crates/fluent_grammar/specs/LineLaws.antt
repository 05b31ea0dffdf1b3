-- Laws of pattern lines, as statements: the common indent is the least, and what is dropped at the end is blank.
use Rattle.std.specs.Prelude.{◌≡◌, ◌≤◌, ℕ, true, false, List, [], ◌∷◌, ◌++◌, Option, Some, None}
use Rattle.std.specs.List.{list_all}
use Rattle.fluent_grammar.specs.Lines.{Piece, is_blank, indent_of, common_indent, without_blank_end}

-- One of these pieces has this indent.
pub data Tells : ℕ → List Piece → Type 0 where
  first_tells : {n : ℕ} {p : Piece} {ps : List Piece} → indent_of p ≡ Some n → Tells n (p ∷ ps)
  later_tells : {n : ℕ} {p : Piece} {ps : List Piece} → Tells n ps → Tells n (p ∷ ps)

-- The least indent that these pieces have; none if no piece has any.
abbrev pub IsLeastIndent : Option ℕ → List Piece → Type 0
IsLeastIndent None ps = (n : ℕ) → Tells n ps → ⊥
IsLeastIndent (Some n) ps = Tells n ps × ((m : ℕ) → Tells m ps → n ≤ m)

abbrev pub CommonIndentIsLeast : Type 0
CommonIndentIsLeast = (ps : List Piece) → IsLeastIndent (common_indent ps) ps

-- These pieces end with one that isn't blank, or there is none.
pub data EndsNotBlank : List Piece → Type 0 where
  no_pieces : EndsNotBlank []
  last_piece : (ps : List Piece) (p : Piece) → is_blank p ≡ false → EndsNotBlank (ps ++ p ∷ [])

-- Pieces without the blank ones at their end.
pub record CutsBlankEnd (kept ps : List Piece) : Type 0 where
  pub dropped : List Piece
  pub split : ps ≡ kept ++ dropped
  pub blank : list_all is_blank dropped ≡ true
  pub ends : EndsNotBlank kept

abbrev pub BlankEndIsCut : Type 0
BlankEndIsCut = (ps : List Piece) → CutsBlankEnd (without_blank_end ps) ps
