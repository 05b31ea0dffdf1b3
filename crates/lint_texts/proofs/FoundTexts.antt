-- The first place of a part in a text.
use Rattle.std.proofs.Common.{◌≡◌, ◌∙◌, ℕ, zero, suc, ◌+◌, ◌<◌, ◌≤◌, ◌⊎◌, Bool, true, false, if◌then◌else◌, [], ◌∷◌, length, drop, take, get_or, Some, None, refl, ap, sym, arith, length-take, get_or-take}
use Rattle.std.specs.Str.{bytes_eq}
use Rattle.std.specs.Cmp.Lexicographic.{same_text}
use Rattle.std.proofs.lemmas.Bool.{false_from_ne_true}
use Rattle.std.proofs.lemmas.Bool.Decides.{nat_tests}
use Rattle.std.proofs.lemmas.Grind.{same_number_lists}
use Rattle.std.proofs.lemmas.Slice.Eq.{bytes_eq-Decides}
use Rattle.memchr.specs.Find.{FindsNeedle, OccursAt}
use Rattle.fluent_grammar.specs.Words.{Text}
use Rattle.fluent_tokens.specs.Counted.{Cuts}
use Rattle.lint_findings.specs.Typing.{from_text}
use Rattle.lint_texts.specs.Quotes.{begins_character}

same_bytes : (s : Text) → bytes_eq s s ≡ true
same_bytes s = grind (arith, bytes_eq-Decides)

-- ---- at the front

module _ (part : Text) where
  abbrev at_front : Text → Bool
  at_front s = bytes_eq (take (length part) s) part

  occurs : (s : Text) → at_front s ≡ true → OccursAt s part 0
  occurs s h =
      let same : take (length part) s ≡ part = same_text (take (length part) s) part (sym h) in
      let long = ap length same in
      let fits : length part ≤ length s = omega (arith, long, length-take (length part) s) in
      record {
        fits = omega (arith, fits);
        reads = λ j lt.
            let e : 0 + j ≡ j = omega arith in
            rw e (sym (get_or-take (length part) s j 0 lt) ∙ ap (λ z. get_or z j 0) same);
      }

  front : (s : Text) → OccursAt s part 0 → at_front s ≡ true
  front s there =
      let fits : length part ≤ length s = omega (arith, there.fits) in
      let long : length (take (length part) s) ≡ length part = omega (arith, fits, length-take (length part) s) in
      let same : take (length part) s ≡ part =
      same_number_lists (take (length part) s) part long (λ k lt.
      let small : k < length part = omega (arith, lt, long) in
      let e : 0 + k ≡ k = omega arith in
      get_or-take (length part) s k 0 small ∙ rw e at (there.reads k small)) in
      ap (λ z. bytes_eq z part) same ∙ same_bytes part

  later : (c : ℕ) (s : Text) (k : ℕ) → OccursAt (c ∷ s) part (suc k) → OccursAt s part k
  later c s k there = record {
    fits = omega (arith, there.fits);
    reads = λ j lt.
        let e : suc k + j ≡ suc (k + j) = omega arith in
        rw e at (there.reads j lt);
  }

  sooner : (c : ℕ) (s : Text) (k : ℕ) → OccursAt s part k → OccursAt (c ∷ s) part (suc k)
  sooner c s k there = record {
    fits = omega (arith, there.fits);
    reads = λ j lt.
        let e : suc k + j ≡ suc (k + j) = omega arith in
        rw e (there.reads j lt);
  }

  here : (c : ℕ) (s : Text) → at_front (c ∷ s) ≡ true → from_text part (c ∷ s) ≡ Some (c ∷ s)
  here c s h = ap (λ b. if b then Some (c ∷ s) else from_text part s) h

  passed : (c : ℕ) (s : Text) → at_front (c ∷ s) ≡ false → from_text part (c ∷ s) ≡ from_text part s
  passed c s h = ap (λ b. if b then Some (c ∷ s) else from_text part s) h

  -- ---- at the first place

  pub is_found : 0 < length part → (s : Text) (k : ℕ) → OccursAt s part k → ((j : ℕ) → j < k → OccursAt s part j → ⊥) → from_text part s ≡ Some (drop k s)
  is_found some [] k there none = absurd (omega (arith, some, there.fits))
  is_found some (c ∷ s) zero there none = here c s (front (c ∷ s) there)
  is_found some (c ∷ s) (suc k) there none =
      passed c s (false_from_ne_true _ (λ h. none 0 (omega arith) (occurs (c ∷ s) h)))
      ∙ is_found some s k (later c s k there) (λ j lt at. none (suc j) (omega (arith, lt)) (sooner c s j at))

  is_nowhere : (s : Text) → ((j : ℕ) → j < length s → OccursAt s part j → ⊥) → from_text part s ≡ None
  is_nowhere [] none = refl
  is_nowhere (c ∷ s) none =
      passed c s (false_from_ne_true _ (λ h. none 0 (omega arith) (occurs (c ∷ s) h)))
      ∙ is_nowhere s (λ j lt at. none (suc j) (omega (arith, lt)) (sooner c s j at))

some_first : (part : Text) → begins_character part ≡ true → 0 < length part
some_first [] h = absurd cc
some_first (c ∷ s) h = omega arith

pub found_is : (part s : Text) (k : ℕ) → begins_character part ≡ true → FindsNeedle s part 0 (Some k) → from_text part s ≡ Some (drop k s)
found_is part s k begins found = is_found part (some_first part begins) s k found.1 (λ j lt. found.0.before j (omega arith) lt)

pub nowhere_is : (part s : Text) → FindsNeedle s part 0 None → from_text part s ≡ None
nowhere_is part s none = is_nowhere part s (λ j lt. none j (omega arith) (omega (arith, lt)))

first_byte : (part : Text) → begins_character part ≡ true → (get_or part 0 0 < 128) ⊎ (192 ≤ get_or part 0 0)
first_byte [] h = absurd cc
first_byte (c ∷ s) h = grind (arith, nat_tests)

-- the text may be cut before the part
pub cut_found : (part s : Text) (k : ℕ) → begins_character part ≡ true → FindsNeedle s part 0 (Some k) → Cuts s k
cut_found part s k begins found =
    let some = some_first part begins in
    let e : k + 0 ≡ k = omega arith in
    let same : get_or s k 0 ≡ get_or part 0 0 = rw e at (found.1.reads 0 some) in
    let first = first_byte part begins in
    record {
      within = omega (arith, found.1.fits);
      boundary = λ _. (omega (arith, found.1.fits), λ inside high. omega (arith, first, same, high));
    }
