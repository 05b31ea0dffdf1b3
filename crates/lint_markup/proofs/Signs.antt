-- What stands before the next byte of a kind.
use Rattle.std.proofs.Common.{◌≡◌, ◌∙◌, ℕ, zero, suc, ◌<◌, ◌≤◌, Bool, true, false, cond, not, [], ◌∷◌, length, drop, get_or, ltb, eqb, Some, None, refl, ap, arith}
use Rattle.std.specs.List.{prefix_len, position_or_len}
use Rattle.std.proofs.lemmas.List.{drop_all, drop_more}
use Rattle.std.proofs.lemmas.List.Sums.{fails_before_first, passes_at_first, position_or_len_is}
use Rattle.memchr.specs.Find.{IsFirstByte}
use Rattle.fluent_grammar.specs.Words.{Text, begins_with}
use Rattle.fluent_tokens.specs.Counted.{Cuts}
use Rattle.fluent_tokens.proofs.Counted.{cut_begun}

pub not_true : (b : Bool) → (b ≡ true → ⊥) → b ≡ false
not_true true h = absurd (h refl)
not_true false h = refl

-- ---- functions of texts that pass over the bytes that fail a test

abbrev pub PassesOver : {A : Type 0} → (ℕ → Bool) → (Text → A) → Type 0
PassesOver p f = (c : ℕ) (cs : Text) → p c ≡ false → f (c ∷ cs) ≡ f cs

nothing_before : {A : Type 0} (p : ℕ → Bool) (f : Text → A) → PassesOver p f → (s : Text) (n : ℕ) → n ≤ length s → ((k : ℕ) → k < n → p (get_or s k 0) ≡ true → ⊥) → f s ≡ f (drop n s)
nothing_before p f passes s zero le none = refl
nothing_before p f passes [] (suc n) le none = refl
nothing_before p f passes (c ∷ cs) (suc n) le none =
    passes c cs (not_true (p c) (none 0 (omega arith))) ∙ nothing_before p f passes cs n (omega (arith, le)) (λ k lt. none (suc k) (omega (arith, lt)))

-- the next one
pub next_found : {A : Type 0} (p : ℕ → Bool) (f : Text → A) → PassesOver p f → (s : Text) (n : ℕ) → IsFirstByte p s (Some n) → f s ≡ f (drop n s)
next_found p f passes s n found = nothing_before p f passes s n (omega (arith, found.0.high)) (λ k lt. found.0.before k (omega arith) lt)

-- there is none
pub none_found : {A : Type 0} (p : ℕ → Bool) (f : Text → A) → PassesOver p f → (s : Text) → IsFirstByte p s None → f s ≡ f []
none_found p f passes s none =
    nothing_before p f passes s (length s) (omega arith) (λ k lt. none k (omega arith) lt) ∙ ap f (drop_all (length s) s (omega arith))

-- ---- the first byte that passes, by its place

pub first_is : (p : ℕ → Bool) (s : Text) → IsFirstByte p s (cond (ltb (position_or_len p s) (length s)) (Some (position_or_len p s)) None)
first_is p s = by (ltb (position_or_len p s) (length s)) refl
  where
    by : (b : Bool) → ltb (position_or_len p s) (length s) ≡ b → IsFirstByte p s (cond b (Some (position_or_len p s)) None)
    by true e =
        let lt : position_or_len p s < length s = grind (arith, e) in
        (record { low = omega arith; high = lt; before = λ k low high is. absurd cc (fails_before_first p s k 0 high, is) }, passes_at_first p s 0 lt)
    by false e = λ k low high is.
        let lt : k < position_or_len p s = grind (arith, e) in
        absurd cc (fails_before_first p s k 0 lt, is)

-- what stands before the byte, or the whole text if there is none
pub before_found : (b : ℕ) (s : Text) (n : ℕ) → IsFirstByte (λ c. eqb c b) s (Some n) → prefix_len (λ c. not (eqb c b)) s ≡ n
before_found b s n found = position_or_len_is (λ c. eqb c b) s n 0 (omega (arith, found.0.high)) (λ k lt. not_true _ (found.0.before k (omega arith) lt)) (λ _. found.1)

pub all_before : (b : ℕ) (s : Text) → IsFirstByte (λ c. eqb c b) s None → prefix_len (λ c. not (eqb c b)) s ≡ length s
all_before b s none = position_or_len_is (λ c. eqb c b) s (length s) 0 (omega arith) (λ k lt. not_true _ (none k (omega arith) lt)) (λ lt. absurd (omega (arith, lt)))

-- ---- where the text may be cut after the byte

pub sign_there : (b : ℕ) (s : Text) (n : ℕ) → IsFirstByte (λ c. eqb c b) s (Some n) → begins_with b (drop n s) ≡ true
sign_there b s n found = ap (begins_with b) (drop_more s n 0 (omega (arith, found.0.high))) ∙ found.1

-- at the front of what follows the others
pub cut_after : (b : ℕ) (s u : Text) (n : ℕ) → b < 128 → IsFirstByte (λ c. eqb c b) s (Some n) → u ≡ drop n s → Cuts u 1
cut_after b s u n ascii found is = cut_begun u b ascii (ap (begins_with b) is ∙ sign_there b s n found)
