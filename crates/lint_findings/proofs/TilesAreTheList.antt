-- The tiles of a source are its messages and terms, and one junk for each error.
use Rattle.std.proofs.Common.{◌≡◌, ◌∙◌, ℕ, zero, suc, ◌+◌, ◌-◌, ◌==◌, Bool, true, false, if◌then◌else◌, List, [], ◌∷◌, ◌++◌, length, Option, Some, None, refl, sym, ap, not}
use Rattle.fluent_grammar.specs.Words.{Text, skip_blank_block}
use Rattle.fluent_grammar.specs.Refusal.{Reading, got, refused}
use Rattle.fluent_grammar.specs.Tree as t
use Rattle.fluent_grammar.specs.Reading.{entry_at}
use Rattle.fluent_grammar.specs.Tiling.{Piece, and_pieces, pieces_from, entries_of, error_of, errors_of, waiting, left_alone, listed}
use Rattle.lint_findings.specs.Tiles.{Tile, and_tiles, tiles_from}
use Rattle.lint_findings.specs.PlaceLaws.{tile_entries, tile_errors, TilesAreTheList, TilesHaveTheErrors}

-- a comment that waits is neither a message nor a term
waits : (held : Option (List Text)) (es : List t.Entry) → listed (waiting held ++ es) ≡ listed es
waits None es = refl
waits (Some lines) es = refl

waits_last : (held : Option (List Text)) → listed (waiting held) ≡ []
waits_last None = refl
waits_last (Some lines) = refl

alone : (held : Option (List Text)) (apart : Bool) (es : List t.Entry) → listed (left_alone held apart ++ es) ≡ listed es
alone held true es = waits held es
alone held false es = refl

-- what is left is listed alike, whatever comment waits
abbrev Alike : (ℕ → Text → List Piece) → (ℕ → Text → List Tile) → Type 0
Alike left leave = (held : Option (List Text)) (at : ℕ) (s : Text) → listed (entries_of held (left at s)) ≡ listed (tile_entries (leave at s))

module _ (left : ℕ → Text → List Piece) (leave : ℕ → Text → List Tile) (same : Alike left leave) where
  read : (held : Option (List Text)) (at : ℕ) (apart : Bool) (s : Text) (r : Reading t.Entry) →
      listed (entries_of held (and_pieces left at apart s r)) ≡ listed (tile_entries (and_tiles leave at s r))
  read held at apart s (refused fault) = waits held _ ∙ same None _ _
  read held at apart s (got (t.message m) rest) = alone held apart _ ∙ ap (λ es. t.message (record m { comment = None }) ∷ es) (same None _ _)
  read held at apart s (got (t.term m) rest) = alone held apart _ ∙ ap (λ es. t.term (record m { comment = None }) ∷ es) (same None _ _)
  read held at apart s (got (t.comment lines) rest) = waits held _ ∙ same (Some lines) _ _
  read held at apart s (got (t.group_comment lines) rest) = waits held _ ∙ same None _ _
  read held at apart s (got (t.resource_comment lines) rest) = waits held _ ∙ same None _ _
  read held at apart s (got (t.junk x) rest) = waits held _ ∙ same None _ _

branch : (held : Option (List Text)) (b : Bool) (ps : List Piece) (st : List Tile) → listed (entries_of held ps) ≡ listed (tile_entries st) →
    listed (entries_of held (if b then [] else ps)) ≡ listed (tile_entries (if b then [] else st))
branch held true ps st same = waits_last held
branch held false ps st same = same

goes : (n : ℕ) → Alike (pieces_from n) (tiles_from n)
unfolding pieces_from tiles_from
goes zero held at s = waits_last held
goes (suc n) held at s =
    let u = skip_blank_block s in
    branch held (length u == 0) _ _ (read (pieces_from n) (tiles_from n) (goes n) held (at + (length s - length u)) (not (length u == length s)) u (entry_at u))

pub tiles_are_the_list : TilesAreTheList
tiles_are_the_list source = sym (goes (suc (length source)) None 0 source)

-- ---- errors

abbrev SameErrors : (ℕ → Text → List Piece) → (ℕ → Text → List Tile) → Type 0
SameErrors left leave = (at : ℕ) (s : Text) → tile_errors (leave at s) ≡ errors_of (left at s)

module _ (left : ℕ → Text → List Piece) (leave : ℕ → Text → List Tile) (same : SameErrors left leave) where
  read_errors : (at : ℕ) (apart : Bool) (s : Text) (r : Reading t.Entry) → tile_errors (and_tiles leave at s r) ≡ errors_of (and_pieces left at apart s r)
  read_errors at apart s (refused fault) = ap (λ es. error_of at s fault ∷ es) (same _ _)
  read_errors at apart s (got e rest) = same _ _

branch_errors : (b : Bool) (ps : List Piece) (ts : List Tile) → tile_errors ts ≡ errors_of ps → tile_errors (if b then [] else ts) ≡ errors_of (if b then [] else ps)
branch_errors true ps ts same = refl
branch_errors false ps ts same = same

go_errors : (n : ℕ) → SameErrors (pieces_from n) (tiles_from n)
unfolding pieces_from tiles_from
go_errors zero at s = refl
go_errors (suc n) at s =
    let u = skip_blank_block s in
    branch_errors (length u == 0) _ _ (read_errors (pieces_from n) (tiles_from n) (go_errors n) (at + (length s - length u)) (not (length u == length s)) u (entry_at u))

pub tiles_have_the_errors : TilesHaveTheErrors
tiles_have_the_errors source = go_errors (suc (length source)) 0 source
