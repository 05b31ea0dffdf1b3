-- What holds of the messages, terms and junk of a source.
use Rattle.std.proofs.Common.{◌≡◌, ◌∙◌, ℕ, zero, suc, ◌+◌, ◌-◌, Bool, true, false, if◌then◌else◌, List, [], ◌∷◌, length, map, count_by, refl, sym, ap, arith}
use Rattle.std.specs.Prelude.{◌==◌, All, cond}
use Rattle.std.proofs.lemmas.List.Elements.{All-cons, All-nil}
use Rattle.std.proofs.lemmas.List.Sums.{sum_by-cons}
use Rattle.lint_findings.specs.Summary.{has_id, is_message}
use Rattle.lint_findings.specs.Tiles.{Tile, entry_tile, junk_tile, tiles, and_tiles, tiles_from}
use Rattle.fluent_grammar.specs.Reading.{entry_at}
use Rattle.fluent_grammar.specs.Refusal.{Reading, Refusal, got, refused}
use Rattle.fluent_grammar.specs.Tree as t
use Rattle.fluent_grammar.specs.Words.{Text, skip_blank_block}
use Rattle.lint_entries.specs.Kept.{Part, entry_part, junk_part, kept_tiles, part_of_tile, parts}
use Rattle.lint_entries.specs.TileView.{IsReadPart, is_entry_part, is_message_part, tile_view}
use Rattle.lint_entries.specs.declared.tile.Tile.{Tile as Held}
use Rattle.lint_entries.proofs.KeptTree.{plain_of}

-- ---- each is read where it is

abbrev AreRead : List Tile → Type 0
AreRead ts = All IsReadPart (map part_of_tile (kept_tiles ts))

module _ (leave : ℕ → Text → List Tile) (later : (at : ℕ) (s : Text) → AreRead (leave at s)) where
  read : (at : ℕ) (s : Text) (x : Reading t.Entry) → entry_at s ≡ x → AreRead (and_tiles leave at s x)
  read at s (refused refusal) h = All-cons IsReadPart _ _ tt (later _ _)
  read at s (got (t.message m) rest) h =
      All-cons IsReadPart (entry_part s (t.message m)) _ (rest, h ∙ ap (λ e. got e rest) (sym (plain_of s rest (t.message m) refl h))) (later _ _)
  read at s (got (t.term m) rest) h =
      All-cons IsReadPart (entry_part s (t.term m)) _ (rest, h ∙ ap (λ e. got e rest) (sym (plain_of s rest (t.term m) refl h))) (later _ _)
  read at s (got (t.comment c) rest) h = later _ _
  read at s (got (t.group_comment c) rest) h = later _ _
  read at s (got (t.resource_comment c) rest) h = later _ _
  read at s (got (t.junk x) rest) h = later _ _

branch : (b : Bool) (ts : List Tile) → AreRead ts → AreRead (if b then [] else ts)
branch true ts h = All-nil IsReadPart
branch false ts h = h

goes : (n at : ℕ) (s : Text) → AreRead (tiles_from n at s)
unfolding tiles_from
goes zero at s = All-nil IsReadPart
goes (suc n) at s =
    let u = skip_blank_block s in
    branch (length u == 0) _ (read (tiles_from n) (goes n) (at + (length s - length u)) u (entry_at u) refl)

pub parts_are_read : (source : Text) → All IsReadPart (parts source)
parts_are_read source = goes (suc (length source)) 0 source

-- ---- how many are messages, and how many are messages or terms

abbrev one_if : {A : Type 0} → (A → Bool) → A → ℕ
one_if p x = cond (p x) 1 0

-- a test of tiles, and one of parts that says the same of those that are kept, while no other tile passes
record SaysSame (of_tile : Tile → Bool) (of_part : Part → Bool) : Type 0 where
  message : (at : ℕ) (s : Text) (m : t.Message) → of_part (entry_part s (t.message m)) ≡ of_tile (entry_tile at s (t.message m))
  term : (at : ℕ) (s : Text) (m : t.Term) → of_part (entry_part s (t.term m)) ≡ of_tile (entry_tile at s (t.term m))
  junk : (at : ℕ) (s : Text) (refusal : Refusal) → of_part junk_part ≡ of_tile (junk_tile at s refusal)
  comment : (at : ℕ) (s : Text) (c : List Text) → of_tile (entry_tile at s (t.comment c)) ≡ false
  group_comment : (at : ℕ) (s : Text) (c : List Text) → of_tile (entry_tile at s (t.group_comment c)) ≡ false
  resource_comment : (at : ℕ) (s : Text) (c : List Text) → of_tile (entry_tile at s (t.resource_comment c)) ≡ false
  unread : (at : ℕ) (s x : Text) → of_tile (entry_tile at s (t.junk x)) ≡ false

module _ (of_tile : Tile → Bool) (of_part : Part → Bool) (same : SaysSame of_tile of_part) where
  counted : (t : Tile) (ts : List Tile) → count_by of_tile (t ∷ ts) ≡ one_if of_tile t + count_by of_tile ts
  counted t ts = sum_by-cons (one_if of_tile) t ts

  passed : (t : Tile) (ts : List Tile) → of_tile t ≡ false → count_by of_tile (t ∷ ts) ≡ count_by of_tile ts
  passed t ts fails = omega (arith, counted t ts ∙ ap (λ b. cond b 1 0 + count_by of_tile ts) fails)

  kept_one : (p : Part) (t : Tile) (ps : List Part) (ts : List Tile) → of_part p ≡ of_tile t → count_by of_part ps ≡ count_by of_tile ts → count_by of_part (p ∷ ps) ≡ count_by of_tile (t ∷ ts)
  kept_one p t ps ts says later =
      sum_by-cons (one_if of_part) p ps ∙ ap (λ b. cond b 1 0 + count_by of_part ps) says ∙ ap (λ n. one_if of_tile t + n) later ∙ sym (counted t ts)

  kept_count : (ts : List Tile) → count_by of_part (map part_of_tile (kept_tiles ts)) ≡ count_by of_tile ts
  kept_count [] = refl
  kept_count (entry_tile at s (t.message m) ∷ ts) = kept_one (entry_part s (t.message m)) (entry_tile at s (t.message m)) (map part_of_tile (kept_tiles ts)) ts (same.message at s m) (kept_count ts)
  kept_count (entry_tile at s (t.term m) ∷ ts) = kept_one (entry_part s (t.term m)) (entry_tile at s (t.term m)) (map part_of_tile (kept_tiles ts)) ts (same.term at s m) (kept_count ts)
  kept_count (entry_tile at s (t.comment c) ∷ ts) = kept_count ts ∙ sym (passed (entry_tile at s (t.comment c)) ts (same.comment at s c))
  kept_count (entry_tile at s (t.group_comment c) ∷ ts) = kept_count ts ∙ sym (passed (entry_tile at s (t.group_comment c)) ts (same.group_comment at s c))
  kept_count (entry_tile at s (t.resource_comment c) ∷ ts) = kept_count ts ∙ sym (passed (entry_tile at s (t.resource_comment c)) ts (same.resource_comment at s c))
  kept_count (entry_tile at s (t.junk x) ∷ ts) = kept_count ts ∙ sym (passed (entry_tile at s (t.junk x)) ts (same.unread at s x))
  kept_count (junk_tile at s refusal ∷ ts) = kept_one junk_part (junk_tile at s refusal) (map part_of_tile (kept_tiles ts)) ts (same.junk at s refusal) (kept_count ts)

  viewed : (held : List Held) → count_by (λ x. of_part (tile_view x)) held ≡ count_by of_part (map tile_view held)
  viewed [] = refl
  viewed (x ∷ xs) =
      sum_by-cons (one_if (λ y. of_part (tile_view y))) x xs ∙ ap (λ n. one_if of_part (tile_view x) + n) (viewed xs) ∙ sym (sum_by-cons (one_if of_part) (tile_view x) (map tile_view xs))

  all_counted : (held : List Held) (source : Text) → map tile_view held ≡ parts source → count_by (λ x. of_part (tile_view x)) held ≡ count_by of_tile (tiles source)
  all_counted held source is = viewed held ∙ ap (count_by of_part) is ∙ kept_count (tiles source)

messages_said : SaysSame is_message is_message_part
messages_said = record {
  message = λ at s m. refl;
  term = λ at s m. refl;
  junk = λ at s refusal. refl;
  comment = λ at s c. refl;
  group_comment = λ at s c. refl;
  resource_comment = λ at s c. refl;
  unread = λ at s x. refl;
}

entries_said : SaysSame has_id is_entry_part
entries_said = record {
  message = λ at s m. refl;
  term = λ at s m. refl;
  junk = λ at s refusal. refl;
  comment = λ at s c. refl;
  group_comment = λ at s c. refl;
  resource_comment = λ at s c. refl;
  unread = λ at s x. refl;
}

pub messages_counted : (held : List Held) (source : Text) → map tile_view held ≡ parts source →
    count_by (λ x. is_message_part (tile_view x)) held ≡ count_by is_message (tiles source)
messages_counted = all_counted is_message is_message_part messages_said

pub entries_counted : (held : List Held) (source : Text) → map tile_view held ≡ parts source →
    count_by (λ x. is_entry_part (tile_view x)) held ≡ count_by has_id (tiles source)
entries_counted = all_counted has_id is_entry_part entries_said
