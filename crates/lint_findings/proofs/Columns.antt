-- A column counts the characters before it.
use Rattle.std.proofs.Common.{◌≡◌, ◌∙◌, ℕ, suc, ◌+◌, ◌<◌, ◌≤◌, ◌&&◌, Bool, true, false, List, [], ◌∷◌, ◌++◌, length, get_or, refl, sym, ap, arith, inl, inr}
use Rattle.std.specs.Str.{chars, IsUtf8, IsCharBoundary, all_scalars, encode_utf8_all}
use Rattle.std.specs.Prelude.{encode_utf8}
use Rattle.std.proofs.lemmas.Bool.{cases_lt}
use Rattle.std.proofs.lemmas.Bool.Decides.{nat_tests}
use Rattle.std.proofs.lemmas.List.{get_or-append-add}
use Rattle.std.proofs.lemmas.Str.{encodes-chars, scalars-chars}
use Rattle.std.proofs.str.Laws.{Shape, of1, of2, of3, of4, shape}
use lib.Utf8.{scalar, scalar_cases}
use Rattle.fluent_grammar.specs.Words.{Text}
use Rattle.fluent_grammar.specs.Escapes.{is_continuation}
use Rattle.lint_findings.specs.Position.{position_after}
use Rattle.lint_findings.specs.declared.places.SourcePosition.{SourcePosition}
use Rattle.lint_findings.specs.PlaceView.{IsPlaceIn}
use Rattle.lint_findings.proofs.Steps.{after_cons}
use Rattle.lint_findings.proofs.Moves.{step_other, after_continuation}

continues : (b : ℕ) → 128 ≤ b → b < 192 → is_continuation b ≡ true
continues b low high = grind (arith, nat_tests)

begins_above : (b : ℕ) → 192 ≤ b → is_continuation b ≡ false
begins_above b high = grind (arith, nat_tests)

begins_below : (b : ℕ) → b < 128 → is_continuation b ≡ false
begins_below b low = grind (arith, nat_tests)

-- ---- a byte

past_first : (l k b : ℕ) (s : Text) → (b ≡ 10 → ⊥) → is_continuation b ≡ false →
    position_after (record { line = l; column = k }) (b ∷ s) ≡ position_after (record { line = l; column = suc k }) s
past_first l k b s other first =
    after_cons (record { line = l; column = k }) b s
    ∙ ap (λ p. position_after p s) (step_other (record { line = l; column = k }) b other ∙ rw first refl)

past_next : (l k b : ℕ) (s : Text) → 128 ≤ b → b < 192 →
    position_after (record { line = l; column = k }) (b ∷ s) ≡ position_after (record { line = l; column = k }) s
past_next l k b s low high =
    after_cons (record { line = l; column = k }) b s
    ∙ ap (λ p. position_after p s) (step_other (record { line = l; column = k }) b (λ e. absurd (omega arith)) ∙ rw (continues b low high) refl)

-- ---- a character

past_shape : (l k c : ℕ) (s : Text) → (get_or (encode_utf8 c ++ s) 0 0 ≡ 10 → ⊥) → Shape c →
    position_after (record { line = l; column = k }) (encode_utf8 c ++ s) ≡ position_after (record { line = l; column = suc k }) s
past_shape l k c s other (of1 low e) =
    let other' : c ≡ 10 → ⊥ = rw e at other in
    rw e (past_first l k c s other' (begins_below c low))
past_shape l k c s other (of2 a b a1 a2 b1 v e) =
    rw e (past_first l k a (b ∷ s) (λ is. absurd (omega arith)) (begins_above a a1) ∙ past_next l (suc k) b s b1.0 b1.1)
past_shape l k c s other (of3 a b d a1 a2 b1 d1 v e) =
    rw e (past_first l k a (b ∷ d ∷ s) (λ is. absurd (omega arith)) (begins_above a (omega arith)) ∙ past_next l (suc k) b (d ∷ s) b1.0 b1.1
    ∙ past_next l (suc k) d s d1.0 d1.1)
past_shape l k c s other (of4 a b d f a1 a2 b1 d1 f1 v e) =
    rw e (past_first l k a (b ∷ d ∷ f ∷ s) (λ is. absurd (omega arith)) (begins_above a (omega arith)) ∙ past_next l (suc k) b (d ∷ f ∷ s) b1.0 b1.1
    ∙ past_next l (suc k) d (f ∷ s) d1.0 d1.1 ∙ past_next l (suc k) f s f1.0 f1.1)

-- ---- a text

past_chars : (l k : ℕ) (cs : List ℕ) → all_scalars cs ≡ true → ((j : ℕ) → get_or (encode_utf8_all cs) j 0 ≡ 10 → ⊥) →
    position_after (record { line = l; column = k }) (encode_utf8_all cs) ≡ record { line = l; column = k + length cs }
past_chars l k [] scalars other = (let same : k ≡ k + 0 = omega arith in ap (λ n. record { line = l; column = n }) same)
past_chars l k (c ∷ cs) scalars other =
    let is : (scalar c ≡ true) × (all_scalars cs ≡ true) = both_true (scalar c) (all_scalars cs) scalars in
    let first = past_shape l k c (encode_utf8_all cs) (other 0) (shape c (scalar_cases c is.0)) in
    let rest : position_after (record { line = l; column = suc k }) (encode_utf8_all cs) ≡ record { line = l; column = suc k + length cs } =
    past_chars l (suc k) cs is.1 (λ j e. other (length (encode_utf8 c) + j) (get_or-append-add (encode_utf8 c) (encode_utf8_all cs) j 0 ∙ e)) in
    let sum : suc k + length cs ≡ k + suc (length cs) = omega arith in
    first ∙ rest ∙ ap (λ n. record { line = l; column = n }) sum
  where
    both_true : (a b : Bool) → (a && b) ≡ true → (a ≡ true) × (b ≡ true)
    both_true true true e = (refl, refl)
    both_true true false e = absurd cc
    both_true false b e = absurd cc

pub past_text : (l k : ℕ) (s : Text) → IsUtf8 s → ((j : ℕ) → get_or s j 0 ≡ 10 → ⊥) →
    position_after (record { line = l; column = k }) s ≡ record { line = l; column = k + length (chars s) }
past_text l k s utf8 other =
    let same : encode_utf8_all (chars s) ≡ s = encodes-chars s utf8 in
    ap (position_after (record { line = l; column = k })) (sym same)
    ∙ past_chars l k (chars s) (scalars-chars s utf8) (λ j e. other j (ap (λ t. get_or t j 0) (sym same) ∙ e))

-- ---- within a character

pub past_character : (source : Text) (p : SourcePosition) → IsPlaceIn source p → ¬ (IsCharBoundary source p.offset) →
    IsPlaceIn source (record { offset = p.offset + 1; line_start = p.line_start; line = p.line; column = p.column })
past_character source p is within =
    let end : p.offset ≤ length source = is.within in
    let inside : p.offset < length source = elim (cases_lt p.offset (length source)) [
      | inl less ↦ less
      | inr over ↦ absurd (within (end, λ less high. absurd (omega arith)))
    ] in
    let high : 128 ≤ get_or source p.offset 0 = elim (cases_lt (get_or source p.offset 0) 128) [
      | inl low ↦ absurd (within (end, λ less high. absurd (omega arith)))
      | inr high ↦ high
    ] in
    let low : get_or source p.offset 0 < 192 = elim (cases_lt (get_or source p.offset 0) 192) [
      | inl low ↦ low
      | inr first ↦ absurd (within (end, λ less high. first))
    ] in
    after_continuation source p is inside (λ e. absurd (omega arith)) (continues (get_or source p.offset 0) high low)
