-- The parts of a tiling, put together, are the text; and they give the pieces, the tree and the errors.
use Rattle.std.proofs.Common.{◌≡◌, ℕ, zero, suc, ◌+◌, ◌-◌, ◌<◌, ◌≤◌, Bool, true, false, cond, not, List, [], ◌∷◌, ◌++◌, length, refl, sym, ap, ◌∙◌, arith, None}
use Rattle.std.specs.Prelude.{◌==◌}
use Rattle.std.proofs.lemmas.List.{length-take}
use Rattle.fluent_grammar.specs.Words.{Text, begins_with, number_sign, skip_blank_block, rest_of_line}
use Rattle.fluent_grammar.specs.Refusal.{Refusal, Reading, got, refused}
use Rattle.fluent_grammar.specs.Tree as t
use Rattle.fluent_grammar.specs.Ends.{EndsIn}
use Rattle.fluent_grammar.specs.Reading.{entry_at, front}
use Rattle.fluent_grammar.specs.Tiling as p
use Rattle.fluent_grammar.specs.Tiling.{behind_junk, is_field_kind, error_of, pieces_from, runtime_pieces_from, and_pieces, tree, errors, runtime_tree, runtime_errors, entries_of, errors_of}
use Rattle.fluent_grammar.specs.Tiles.{Mode, full, runtime, Part, blank_block, Tiles, blank_first, TilesItems, source_ends, an_entry, some_junk, a_line, text_of, error_of_junk, pieces_of}
use Rattle.fluent_grammar.proofs.Within.{end-same, end-le, end-blank_block}
use Rattle.fluent_grammar.proofs.Tiles.{parts, items, item, line, parts-tiled, tiles-unique}
use Rattle.fluent_grammar.specs.TilingLaws.{EachTextHasATiling, NoTextHasTwoTilings, PartsAreTheText, PiecesNeedNoMoreSteps, TilingGivesTreeAndErrors}

mutual
  pub tiles-text : (mode : Mode) {ps : List Part} {s : Text} → Tiles mode ps s → text_of ps ≡ s
  tiles-text mode (blank_first {blanks} b d) = ap (λ z. blanks ++ z) (items-text mode d) ∙ sym b.split

  items-text : (mode : Mode) {ps : List Part} {s : Text} → TilesItems mode ps s → text_of ps ≡ s
  items-text mode source_ends = refl
  items-text mode (an_entry {front} p read w d) = ap (λ z. front ++ z) (tiles-text mode d) ∙ sym w
  items-text mode (some_junk {front} p some read at ends w d) = ap (λ z. front ++ z) (tiles-text mode d) ∙ sym w
  items-text mode (a_line {front} p l d) = ap (λ z. front ++ z) (tiles-text mode d) ∙ sym l.split

length-front : (s a : Text) → length (front s a) ≡ length s - length a
length-front s a = omega (arith, length-take (length s - length a) s)

-- the error of junk, by its text and by the place that reading stopped at
error-same : (at : ℕ) (s : Text) (fault : Refusal) → error_of_junk at (front s (behind_junk s fault.at)) fault.kind (length s - length fault.at) ≡ error_of at s fault
error-same at s fault = rw (length-front s (behind_junk s fault.at)) refl

item-pieces : (mode : Mode) (left : Text → List Part) (left' : ℕ → Text → List p.Piece) → ((at : ℕ) (u : Text) → pieces_of mode at false (left u) ≡ left' at u) →
    (at : ℕ) (apart : Bool) (s : Text) (x : Reading t.Entry) → pieces_of mode at apart (item left s x) ≡ and_pieces left' at apart s x
item-pieces mode left left' same at apart s (got e rest) = rw (length-front s rest, same (at + (length s - length rest)) rest) refl
item-pieces mode left left' same at apart s (refused fault) = rw (error-same at s fault, length-front s (behind_junk s fault.at), same (at + (length s - length (behind_junk s fault.at))) (behind_junk s fault.at)) refl

nonempty : (cs : Text) → (suc (length cs) == 0) ≡ false
nonempty cs = grind arith

items-pieces : (left : Text → List Part) (left' : ℕ → Text → List p.Piece) → ((at : ℕ) (u : Text) → pieces_of full at false (left u) ≡ left' at u) →
    (at : ℕ) (apart : Bool) (s : Text) → pieces_of full at apart (items full left s) ≡ cond (length s == 0) [] (and_pieces left' at apart s (entry_at s))
items-pieces left left' same at apart [] = refl
items-pieces left left' same at apart (c ∷ cs) = rw (nonempty cs) (item-pieces full left left' same at apart (c ∷ cs) (entry_at (c ∷ cs)))

-- a blank block is empty where nothing of the text is skipped
apart-same : (a b : ℕ) → b ≤ a → not ((a - b) == 0) ≡ not (b == a)
apart-same a b h = grind arith

full-step : (left : Text → List Part) (left' : ℕ → Text → List p.Piece) → ((at : ℕ) (u : Text) → pieces_of full at false (left u) ≡ left' at u) →
    (at : ℕ) (apart : Bool) (s u blanks : Text) → EndsIn u s → length blanks ≡ length s - length u →
    pieces_of full at apart (blank_block blanks ∷ items full left u) ≡ cond (length u == 0) [] (and_pieces left' (at + (length s - length u)) (not (length u == length s)) u (entry_at u))
full-step left left' same at apart s u blanks h k =
    rw (← apart-same (length s) (length u) (end-le h), ← k) (items-pieces left left' same _ _ u)

full-pieces : (n at : ℕ) (apart : Bool) (s : Text) → pieces_of full at apart (parts full n s) ≡ pieces_from n at s
unfolding parts pieces_from
full-pieces zero at apart s = refl
full-pieces (suc n) at apart s =
    full-step (parts full n) (pieces_from n) (λ at u. full-pieces n at false u) at apart s (skip_blank_block s) _ (end-blank_block (end-same s)) (length-front s (skip_blank_block s))

runtime_items-pieces : (left : Text → List Part) (left' : ℕ → Text → List p.Piece) → ((at : ℕ) (u : Text) → pieces_of runtime at false (left u) ≡ left' at u) →
    (at : ℕ) (s : Text) → pieces_of runtime at false (items runtime left s) ≡
    cond (length s == 0) [] (cond (begins_with number_sign s) (left' (at + (length s - length (rest_of_line s).1)) (rest_of_line s).1) (and_pieces left' at false s (entry_at s)))
runtime_items-pieces left left' same at [] = refl
runtime_items-pieces left left' same at (c ∷ cs) = rw (nonempty cs) (by_sign (c == number_sign) (c ∷ cs) (entry_at (c ∷ cs)))
  where
    by_sign : (b : Bool) (s : Text) (x : Reading t.Entry) → pieces_of runtime at false (cond b (line left s) (item left s x)) ≡
        cond b (left' (at + (length s - length (rest_of_line s).1)) (rest_of_line s).1) (and_pieces left' at false s x)
    by_sign true s x = same _ (rest_of_line s).1 ∙ ap (λ k. left' (at + k) (rest_of_line s).1) (length-front s (rest_of_line s).1)
    by_sign false s x = item-pieces runtime left left' same at false s x

runtime-step : (left : Text → List Part) (left' : ℕ → Text → List p.Piece) → ((at : ℕ) (u : Text) → pieces_of runtime at false (left u) ≡ left' at u) →
    (at : ℕ) (s u blanks : Text) → length blanks ≡ length s - length u →
    pieces_of runtime at false (blank_block blanks ∷ items runtime left u) ≡
    cond (length u == 0) [] (cond (begins_with number_sign u) (left' (at + (length s - length u) + (length u - length (rest_of_line u).1)) (rest_of_line u).1) (and_pieces left' (at + (length s - length u)) false u (entry_at u)))
runtime-step left left' same at s u blanks k = rw (← k) (runtime_items-pieces left left' same _ u)

runtime-pieces : (n at : ℕ) (s : Text) → pieces_of runtime at false (parts runtime n s) ≡ runtime_pieces_from n at s
unfolding parts runtime_pieces_from
runtime-pieces zero at s = refl
runtime-pieces (suc n) at s =
    runtime-step (parts runtime n) (runtime_pieces_from n) (λ at u. runtime-pieces n at u) at s (skip_blank_block s) _ (length-front s (skip_blank_block s))

-- the pieces of a tiling are those that are computed
pub tiling-pieces : (s : Text) (ps : List Part) → Tiles full ps s → pieces_of full 0 false ps ≡ p.pieces s
tiling-pieces s ps d = rw (tiles-unique full d (suc (length s)) (omega arith)) (full-pieces (suc (length s)) 0 false s)

pub runtime_tiling-pieces : (s : Text) (ps : List Part) → Tiles runtime ps s → pieces_of runtime 0 false ps ≡ p.runtime_pieces s
runtime_tiling-pieces s ps d = rw (tiles-unique runtime d (suc (length s)) (omega arith)) (runtime-pieces (suc (length s)) 0 s)

pub each_text_has_a_tiling : EachTextHasATiling
each_text_has_a_tiling mode s = (parts mode (suc (length s)) s, parts-tiled mode (suc (length s)) s (omega arith))

pub no_text_has_two_tilings : NoTextHasTwoTilings
no_text_has_two_tilings mode s ps qs d e = tiles-unique mode d (suc (length s)) (omega arith) ∙ sym (tiles-unique mode e (suc (length s)) (omega arith))

pub parts_are_the_text : PartsAreTheText
parts_are_the_text mode s ps d = tiles-text mode d

pub tiling_gives_tree_and_errors : TilingGivesTreeAndErrors
tiling_gives_tree_and_errors full s ps d = (ap (entries_of None) (tiling-pieces s ps d), ap errors_of (tiling-pieces s ps d))
tiling_gives_tree_and_errors runtime s ps d = (ap (entries_of None) (runtime_tiling-pieces s ps d), ap errors_of (runtime_tiling-pieces s ps d))

parts-enough : (mode : Mode) (m n : ℕ) (s : Text) → length s < m → length s < n → parts mode m s ≡ parts mode n s
parts-enough mode m n s p q = tiles-unique mode (parts-tiled mode m s p) n q

pub pieces_need_no_more_steps : PiecesNeedNoMoreSteps
pieces_need_no_more_steps m n at s p q = (
  sym (full-pieces m at false s) ∙ ap (pieces_of full at false) (parts-enough full m n s p q) ∙ full-pieces n at false s,
  sym (runtime-pieces m at s) ∙ ap (pieces_of runtime at false) (parts-enough runtime m n s p q) ∙ runtime-pieces n at s,
)
