-- What is kept of the tree of a source is what is kept of its tiles.
use Rattle.std.proofs.Common.{◌≡◌, ◌∙◌, ℕ, zero, suc, ◌+◌, ◌-◌, Bool, true, false, if◌then◌else◌, not, List, [], ◌∷◌, ◌++◌, length, map, Option, Some, None, refl, sym, ap, inl, inr}
use Rattle.std.specs.Prelude.{◌==◌}
use Rattle.fluent_grammar.specs.Words.{Text, skip_blank_block}
use Rattle.fluent_grammar.specs.Refusal.{Reading, got, refused}
use Rattle.fluent_grammar.specs.Tree as t
use Rattle.fluent_grammar.specs.Reading.{entry_at}
use Rattle.fluent_grammar.specs.Tiling.{Piece, and_pieces, pieces_from, entries_of, waiting, left_alone, tree, error_of}
use Rattle.lint_findings.specs.Tiles.{Tile, entry_tile, junk_tile, tiles, and_tiles, tiles_from}
use Rattle.lint_findings.specs.PlaceLaws.{tile_errors}
use Rattle.lint_entries.specs.AttributePlaces.{uncommented}
use Rattle.lint_entries.specs.Kept.{kept_entries, kept_tiles, entry_of_tile}
use Rattle.lint_entries.proofs.Starts.{is_comment}
use Rattle.lint_entries.proofs.ReadPlain.{entry_cases}

waits : (held : Option (List Text)) (es : List t.Entry) → kept_entries (waiting held ++ es) ≡ kept_entries es
waits None es = refl
waits (Some lines) es = refl

waits_last : (held : Option (List Text)) → kept_entries (waiting held) ≡ []
waits_last None = refl
waits_last (Some lines) = refl

alone : (held : Option (List Text)) (apart : Bool) (es : List t.Entry) → kept_entries (left_alone held apart ++ es) ≡ kept_entries es
alone held true es = waits held es
alone held false es = refl

-- an entry that is read and no comment has no comment above it
pub plain_of : (s rest : Text) (e : t.Entry) → is_comment e ≡ false → entry_at s ≡ got e rest → uncommented e ≡ e
plain_of s rest e no_comment read = elim (entry_cases s e rest read) [
  | inl passed ↦ absurd (let both : true ≡ false = sym passed.comment ∙ no_comment in cc)
  | inr here ↦ here.plain
]

-- no entry that is read is junk
pub no_junk : {A : Type 0} (s rest : Text) (x : Text) → entry_at s ≡ got (t.junk x) rest → A
no_junk {A} s rest x read = elim (entry_cases s (t.junk x) rest read) [
  | inl passed ↦ absurd (let both : false ≡ true = passed.comment in cc)
  | inr here ↦ absurd (let both : false ≡ true = here.kept in cc)
]

-- what is left is kept alike, whatever comment waits
abbrev Alike : (ℕ → Text → List Piece) → (ℕ → Text → List Tile) → Type 0
Alike left leave = (held : Option (List Text)) (at : ℕ) (s : Text) → kept_entries (entries_of held (left at s)) ≡ map entry_of_tile (kept_tiles (leave at s))

module _ (left : ℕ → Text → List Piece) (leave : ℕ → Text → List Tile) (same : Alike left leave) where
  read : (held : Option (List Text)) (at : ℕ) (apart : Bool) (s : Text) (x : Reading t.Entry) → entry_at s ≡ x →
      kept_entries (entries_of held (and_pieces left at apart s x)) ≡ map entry_of_tile (kept_tiles (and_tiles leave at s x))
  read held at apart s (refused fault) h = waits held _ ∙ ap (λ es. None ∷ es) (same None _ _)
  read held at apart s (got (t.message m) rest) h =
      alone held apart _ ∙ ap (λ e. Some e ∷ kept_entries (entries_of None (left (at + (length s - length rest)) rest))) (plain_of s rest (t.message m) refl h) ∙ ap (λ es. Some (t.message m) ∷ es) (same None _ _)
  read held at apart s (got (t.term m) rest) h =
      alone held apart _ ∙ ap (λ e. Some e ∷ kept_entries (entries_of None (left (at + (length s - length rest)) rest))) (plain_of s rest (t.term m) refl h) ∙ ap (λ es. Some (t.term m) ∷ es) (same None _ _)
  read held at apart s (got (t.comment lines) rest) h = waits held _ ∙ same (Some lines) _ _
  read held at apart s (got (t.group_comment lines) rest) h = waits held _ ∙ same None _ _
  read held at apart s (got (t.resource_comment lines) rest) h = waits held _ ∙ same None _ _
  read held at apart s (got (t.junk x) rest) h = no_junk s rest x h

branch : (held : Option (List Text)) (b : Bool) (ps : List Piece) (ts : List Tile) → kept_entries (entries_of held ps) ≡ map entry_of_tile (kept_tiles ts) →
    kept_entries (entries_of held (if b then [] else ps)) ≡ map entry_of_tile (kept_tiles (if b then [] else ts))
branch held true ps ts same = waits_last held
branch held false ps ts same = same

goes : (n : ℕ) → Alike (pieces_from n) (tiles_from n)
unfolding pieces_from tiles_from
goes zero held at s = waits_last held
goes (suc n) held at s =
    let u = skip_blank_block s in
    branch held (length u == 0) _ _ (read (pieces_from n) (tiles_from n) (goes n) held (at + (length s - length u)) (not (length u == length s)) u (entry_at u) refl)

pub tree_is_kept : (source : Text) → kept_entries (tree source) ≡ map entry_of_tile (kept_tiles (tiles source))
tree_is_kept source = goes (suc (length source)) None 0 source

-- the errors are those of the tiles that are kept
pub errors_are_kept : (ts : List Tile) → tile_errors (kept_tiles ts) ≡ tile_errors ts
errors_are_kept [] = refl
errors_are_kept (entry_tile at s (t.message m) ∷ ts) = errors_are_kept ts
errors_are_kept (entry_tile at s (t.term m) ∷ ts) = errors_are_kept ts
errors_are_kept (entry_tile at s (t.comment c) ∷ ts) = errors_are_kept ts
errors_are_kept (entry_tile at s (t.group_comment c) ∷ ts) = errors_are_kept ts
errors_are_kept (entry_tile at s (t.resource_comment c) ∷ ts) = errors_are_kept ts
errors_are_kept (entry_tile at s (t.junk x) ∷ ts) = errors_are_kept ts
errors_are_kept (junk_tile at s refusal ∷ ts) = ap (λ es. error_of at s refusal ∷ es) (errors_are_kept ts)
