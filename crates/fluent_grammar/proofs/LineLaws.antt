-- The common indent is the least, and what is dropped at the end of a pattern is blank.
use Rattle.std.proofs.Common.{◌≡◌, ℕ, ◌≤◌, Bool, true, false, cond, List, [], ◌∷◌, ◌++◌, length, Option, Some, None, refl, sym, ap, ◌∙◌, arith, inl, inr}
use Rattle.std.specs.Prelude.{◌&&◌, ◌==◌, ◌⊎◌, min, nat_le}
use Rattle.std.proofs.Math.Nat.{min-le_left, min-le_right, min-eq_left, min-eq_right}
use Rattle.std.proofs.lemmas.Bool.Decides.{nat_tests}
use Rattle.fluent_grammar.proofs.Got.{decide}
use Rattle.fluent_grammar.specs.Lines.{Piece, is_blank, indent_of, lesser, common_indent, without_blank_end}
use Rattle.fluent_grammar.specs.LineLaws.{Tells, first_tells, later_tells, IsLeastIndent, CommonIndentIsLeast, EndsNotBlank, no_pieces, last_piece, CutsBlankEnd, BlankEndIsCut}

-- ---- the common indent

none-tells : {p : Piece} {ps : List Piece} → indent_of p ≡ None → ((n : ℕ) → Tells n ps → ⊥) → (n : ℕ) → Tells n (p ∷ ps) → ⊥
none-tells e none n (first_tells t) = absurd cc
none-tells e none n (later_tells t) = none n t

no-less : {p : Piece} {ps : List Piece} (k : ℕ) → ((m : ℕ) → indent_of p ≡ Some m → k ≤ m) → ((m : ℕ) → Tells m ps → k ≤ m) → (m : ℕ) → Tells m (p ∷ ps) → k ≤ m
no-less k here later m (first_tells t) = here m t
no-less k here later m (later_tells t) = later m t

told-is : (p : Piece) (a m : ℕ) → indent_of p ≡ Some a → indent_of p ≡ Some m → a ≡ m
told-is p a m e t = cc

tells-at : {n m : ℕ} {ps : List Piece} → m ≡ n → Tells m ps → Tells n ps
tells-at e t = rw (← e) t

le-or : (a b : ℕ) → (a ≤ b) ⊎ (b ≤ a)
le-or a b = elim (decide (nat_le a b)) [
  | inl h ↦ inl (grind (arith, nat_tests))
  | inr h ↦ inr (grind (arith, nat_tests))
]

lesser-tells : (p : Piece) (ps : List Piece) (a b : ℕ) → indent_of p ≡ Some a → Tells b ps → Tells (min a b) (p ∷ ps)
lesser-tells p ps a b e t = elim (le-or a b) [
  | inl h ↦ tells-at (sym (min-eq_left h)) (first_tells e)
  | inr h ↦ tells-at (sym (min-eq_right h)) (later_tells t)
]

least-step : (p : Piece) (ps : List Piece) (a b : Option ℕ) → indent_of p ≡ a → IsLeastIndent b ps → IsLeastIndent (lesser a b) (p ∷ ps)
least-step p ps None None e d = none-tells e d
least-step p ps None (Some b) e d = (later_tells d.0, no-less b (λ m t. absurd cc) d.1)
least-step p ps (Some a) None e d = (first_tells e, no-less a (λ m t. omega (arith, told-is p a m e t)) (λ m t. absurd (d m t)))
least-step p ps (Some a) (Some b) e d = (
  lesser-tells p ps a b e d.0,
  no-less (min a b) (λ m t. omega (arith, told-is p a m e t, min-le_left a b)) (λ m t. omega (arith, d.1 m t, min-le_right a b)),
)

pub common_indent_is_least : CommonIndentIsLeast
common_indent_is_least [] = λ n t. elim t [ ]
common_indent_is_least (p ∷ ps) = least-step p ps (indent_of p) (common_indent ps) refl (common_indent_is_least ps)

-- ---- the end that is cut

one-more : {p : Piece} {ps : List Piece} → EndsNotBlank ps → (length ps == 0) ≡ false → EndsNotBlank (p ∷ ps)
one-more no_pieces h = absurd cc
one-more {p} (last_piece ps q e) h = last_piece (p ∷ ps) q e

no_kept : (ps : List Piece) → (length ps == 0) ≡ true → ps ≡ []
no_kept [] h = refl
no_kept (p ∷ ps) h = absurd (grind arith)

cut-step : (p : Piece) (ps : List Piece) (b z : Bool) → is_blank p ≡ b → (length (without_blank_end ps) == 0) ≡ z → CutsBlankEnd (without_blank_end ps) ps →
    CutsBlankEnd (cond (b && z) [] (p ∷ without_blank_end ps)) (p ∷ ps)
cut-step p ps true true e h d =
    let n : without_blank_end ps ≡ [] = no_kept (without_blank_end ps) h in
    let s : ps ≡ d.dropped = d.split ∙ ap (λ x. x ++ d.dropped) n in
    record { dropped = p ∷ d.dropped; split = ap (λ x. p ∷ x) s; blank = rw e d.blank; ends = no_pieces }
cut-step p ps true false e h d = record { dropped = d.dropped; split = ap (λ x. p ∷ x) d.split; blank = d.blank; ends = one-more d.ends h }
cut-step p ps false true e h d =
    let n : without_blank_end ps ≡ [] = no_kept (without_blank_end ps) h in
    record { dropped = d.dropped; split = ap (λ x. p ∷ x) d.split; blank = d.blank; ends = rw n (last_piece [] p e) }
cut-step p ps false false e h d = record { dropped = d.dropped; split = ap (λ x. p ∷ x) d.split; blank = d.blank; ends = one-more d.ends h }

pub blank_end_is_cut : BlankEndIsCut
blank_end_is_cut [] = record { dropped = []; split = refl; blank = refl; ends = no_pieces }
blank_end_is_cut (p ∷ ps) = cut-step p ps (is_blank p) (length (without_blank_end ps) == 0) refl refl (blank_end_is_cut ps)
