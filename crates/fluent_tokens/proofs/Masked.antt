-- Bytes told sixteen at a time, through the mask of those that pass a test.
use Rattle.std.proofs.Common.{◌≡◌, ◌≢◌, ℕ, ◌+◌, ◌-◌, ◌*◌, ◌%◌, ◌^◌, ◌<◌, ◌≤◌, Bool, true, false, not, cond, eqb, List, [], ◌∷◌, map, length, drop, get_or, refl, sym, ap, ap₂, ◌∙◌, arith, w8, Fits, inl, inr}
use Rattle.std.proofs.lemmas.Bool.{agree_below, agree_below_at, cases_eq, cases_lt, eq-eqb, ne_eqb, false≢true}
use Rattle.std.proofs.lemmas.Simd.{mask_l-mod, chunk-drop, length-chunk, leading_from_mask_l, trailing_mask_l, run_in_chunk_le, run_in_chunk_fails, run_in_chunk_stops, none_from_empty_mask}
use Rattle.std.proofs.lemmas.List.{length-map, length-drop, get_or-drop}
use Rattle.std.proofs.lemmas.List.Folds.{prefix_len-append}
use Rattle.std.proofs.lemmas.List.Sums.{prefix_len-le-length}
use Rattle.std.specs.Prelude.{Option, None, Some, ◌==◌}
use Rattle.std.specs.List.{prefix_len}
use lib.Count.{count_trailing_zeros}
use lib.Lanes.{Each1, chunk, mask_l, top}
use Rattle.fluent_grammar.specs.Words as w
use Rattle.memchr.specs.Find.{Nowhere, Passes, IsFirstByte}
use Rattle.fluent_tokens.specs.Bytes.{is_no_name_byte, is_no_space, is_stop}

each_byte : (f : ℕ → ℕ) (p : ℕ → Bool) → agree_below (λ x. top 7 (f x)) p 256 ≡ true → (v : List ℕ) → Each1 (Fits w8) v → map (top 7) (map f v) ≡ map p v
each_byte f p all [] fits = refl
each_byte f p all (x ∷ xs) fits = ap₂ (λ a b. a ∷ b) (agree_below_at (λ y. top 7 (f y)) p 256 x all fits.0.fits) (each_byte f p all xs fits.1)

-- a mask that is computed byte by byte, held to the test at each of the 256 bytes
pub masked : (f : ℕ → ℕ) (p : ℕ → Bool) (v z : List ℕ) → length v ≤ 64 → Each1 (Fits w8) v → z ≡ map f v → agree_below (λ x. top 7 (f x)) p 256 ≡ true
    → mask_l (map (top 7) z) % 2 ^ 64 ≡ mask_l (map p v)
masked f p v z short fits e all =
    ap (λ l. mask_l l % 2 ^ 64) (ap (map (top 7)) e ∙ each_byte f p all v fits) ∙ mask_l-mod (map p v) 64 (omega (arith, length-map v p))

none_fails : (b : Bool) (n l m : ℕ) → n ≤ l → cond (not b) (1 + n) 0 ≡ 1 + l → (n ≡ l → m ≡ 0) → cond b 1 0 + 2 * m ≡ 0
none_fails true n l m le e ih = absurd (omega arith)
none_fails false n l m le e ih = let z = ih (omega arith) in omega arith

-- the bytes that pass q are those that don't pass p
module _ (p q : ℕ → Bool) (opposite : (x : ℕ) → q x ≡ not (p x)) where
  same_run : (xs : List ℕ) → prefix_len q xs ≡ prefix_len (λ x. not (p x)) xs
  same_run [] = refl
  same_run (x ∷ xs) = ap₂ (λ b n. cond b (1 + n) 0) (opposite x) (same_run xs)

  no_mask : (xs : List ℕ) → prefix_len (λ x. not (p x)) xs ≡ length xs → mask_l (map p xs) ≡ 0
  no_mask [] e = refl
  no_mask (x ∷ xs) e = none_fails (p x) _ (length xs) _ (prefix_len-le-length (λ y. not (p y)) xs) (omega arith) (no_mask xs)

  split : (d : List ℕ) (i n : ℕ) → prefix_len q (drop i d) ≡ cond (eqb (prefix_len q (chunk i n d)) (length (chunk i n d))) (length (chunk i n d) + prefix_len q (drop (i + n) d)) (prefix_len q (chunk i n d))
  split d i n = ap (prefix_len q) (chunk-drop i n d) ∙ prefix_len-append q (chunk i n d) (drop (i + n) d)

  pub run_through : (d : List ℕ) (i n : ℕ) → i + n ≤ length d → mask_l (map p (chunk i n d)) ≡ 0 → prefix_len q (drop i d) ≡ n + prefix_len q (drop (i + n) d)
  run_through d i n room none =
      let c = chunk i n d in
      split d i n ∙ ap (λ b. cond b (length c + prefix_len q (drop (i + n) d)) (prefix_len q c)) (eq-eqb _ _ (same_run c ∙ leading_from_mask_l p c none))
      ∙ ap (λ k. k + prefix_len q (drop (i + n) d)) (length-chunk i n d room)

  pub run_stops : (d : List ℕ) (i n : ℕ) → i + n ≤ length d → n ≤ 64 → 0 < mask_l (map p (chunk i n d)) → prefix_len q (drop i d) ≡ count_trailing_zeros 64 (mask_l (map p (chunk i n d)))
  run_stops d i n room short some =
      let c = chunk i n d in
      split d i n ∙ ap (λ b. cond b (length c + prefix_len q (drop (i + n) d)) (prefix_len q c)) (ne_eqb _ _ (λ (e : prefix_len q c ≡ length c). omega (arith, no_mask c (sym (same_run c) ∙ e))))
      ∙ same_run c ∙ sym (trailing_mask_l p 64 c (omega (arith, length-chunk i n d room)) some)

not-not : (b : Bool) → b ≡ not (not b)
not-not true = refl
not-not false = refl

-- the bytes of an identifier are those that are no other byte
pub names_through : (d : List ℕ) (i n : ℕ) → i + n ≤ length d → mask_l (map is_no_name_byte (chunk i n d)) ≡ 0 → prefix_len w.is_name_byte (drop i d) ≡ n + prefix_len w.is_name_byte (drop (i + n) d)
names_through = run_through is_no_name_byte w.is_name_byte (λ x. not-not (w.is_name_byte x))

pub names_stop : (d : List ℕ) (i n m : ℕ) → m ≡ mask_l (map is_no_name_byte (chunk i n d)) → i + n ≤ length d → n ≤ 64 → m ≢ 0 → prefix_len w.is_name_byte (drop i d) ≡ count_trailing_zeros 64 m
names_stop d i n m e room short some =
    run_stops is_no_name_byte w.is_name_byte (λ x. not-not (w.is_name_byte x)) d i n room short (omega arith) ∙ ap (count_trailing_zeros 64) (sym e)

-- and spaces those that are no other byte
pub spaces_through : (d : List ℕ) (i n : ℕ) → i + n ≤ length d → mask_l (map is_no_space (chunk i n d)) ≡ 0 → w.spaces (drop i d) ≡ n + w.spaces (drop (i + n) d)
spaces_through = run_through is_no_space (λ c. c == w.space) (λ x. not-not (x == w.space))

pub spaces_stop : (d : List ℕ) (i n m : ℕ) → m ≡ mask_l (map is_no_space (chunk i n d)) → i + n ≤ length d → n ≤ 64 → m ≢ 0 → w.spaces (drop i d) ≡ count_trailing_zeros 64 m
spaces_stop d i n m e room short some =
    run_stops is_no_space (λ c. c == w.space) (λ x. not-not (x == w.space)) d i n room short (omega arith) ∙ ap (count_trailing_zeros 64) (sym e)

-- a mask of 64 bits that is empty has 64 zeros
no_bit : count_trailing_zeros 64 0 ≡ 64
unfolding count_trailing_zeros
no_bit = refl

-- the bytes that pass p, by the mask of n of them from the i-th on
module _ (p : ℕ → Bool) (d : List ℕ) (i n m : ℕ) (e : m ≡ mask_l (map p (chunk i n d))) (room : i + n ≤ length d) where
  -- none in these bytes, and none before them
  pub none_passes : m ≡ 0 → Nowhere (Passes p d) 0 i → Nowhere (Passes p d) 0 (i + n)
  none_passes none before k low high x =
      elim (cases_lt k i) [
        | inl early ↦ before k low early x
        | inr late ↦ absurd (false≢true (sym (none_from_empty_mask p d i n 0 room (sym e ∙ none) k (omega arith) high) ∙ x))
      ]

  module _ (short : n ≤ 64) (some : m ≢ 0) where
    counted : count_trailing_zeros 64 m ≡ prefix_len (λ x. not (p x)) (chunk i n d)
    counted = ap (count_trailing_zeros 64) e ∙ trailing_mask_l p 64 (chunk i n d) (omega (arith, length-chunk i n d room)) (omega arith)

    pub first_inside : count_trailing_zeros 64 m < n
    first_inside =
        let c = chunk i n d in
        let r = count_trailing_zeros 64 m in
        let within : r ≤ n = run_in_chunk_le p d i n r 0 room counted in
        elim (cases_eq r n) [
          | inl whole ↦ absurd (some (e ∙ no_mask p (λ x. not (p x)) (λ x. refl) c (sym counted ∙ whole ∙ sym (length-chunk i n d room))))
          | inr other ↦ omega arith
        ]

    -- the first in these bytes, with none before them
    pub first_passes : Nowhere (Passes p d) 0 i → IsFirstByte p d (Some (i + count_trailing_zeros 64 m))
    first_passes before =
        let r = count_trailing_zeros 64 m in
        let inside = first_inside in (
          record {
            low = omega arith;
            high = omega arith;
            before = λ k low high x. elim (cases_lt k i) [
              | inl early ↦ before k low early x
              | inr late ↦ absurd (false≢true (sym (run_in_chunk_fails p d i n r 0 room counted k late high) ∙ x))
            ];
          },
          run_in_chunk_stops p d i n r 0 room counted inside,
        )

pub stops_none : (d : List ℕ) (i n m : ℕ) → m ≡ mask_l (map is_stop (chunk i n d)) → i + n ≤ length d → m ≡ 0 → Nowhere (Passes is_stop d) 0 i → Nowhere (Passes is_stop d) 0 (i + n)
stops_none = none_passes is_stop

pub stops_at : (d : List ℕ) (i n m : ℕ) → m ≡ mask_l (map is_stop (chunk i n d)) → i + n ≤ length d → n ≤ 64 → m ≢ 0 → Nowhere (Passes is_stop d) 0 i → IsFirstByte is_stop d (Some (i + count_trailing_zeros 64 m))
stops_at = first_passes is_stop

-- what stands before a place among these bytes, and the first of them that passes, where none stands before them
module _ (p : ℕ → Bool) (d : List ℕ) (i n m : ℕ) (e : m ≡ mask_l (map p (chunk i n d))) (room : i + n ≤ length d) (short : n ≤ 64) where
  -- where no bit is set there are 64 zeros
  pub none_to : (k : ℕ) → k ≤ n → k ≤ count_trailing_zeros 64 m → Nowhere (Passes p d) 0 i → Nowhere (Passes p d) 0 (i + k)
  none_to k within h before j low high x =
      elim (cases_eq m 0) [
        | inl none ↦ none_passes p d i n m e room none before j low (omega arith) x
        | inr some ↦ (first_passes p d i n m e room short some before).0.before j low (omega arith) x
      ]

  pub at_first : count_trailing_zeros 64 m < n → Nowhere (Passes p d) 0 i → p (get_or d (i + count_trailing_zeros 64 m) 0) ≡ true
  at_first h before =
      elim (cases_eq m 0) [
        | inl none ↦ absurd (omega (arith, ap (count_trailing_zeros 64) none ∙ no_bit))
        | inr some ↦ (first_passes p d i n m e room short some before).1
      ]

nowhere_behind : (d : List ℕ) (i j : ℕ) → Nowhere (Passes is_stop d) 0 i → Nowhere (Passes is_stop (drop i d)) 0 j → Nowhere (Passes is_stop d) 0 (i + j)
nowhere_behind d i j before behind k low high p =
    elim (cases_lt k i) [
      | inl early ↦ before k low early p
      | inr late ↦
          let at : i + (k - i) ≡ k = omega arith in
          behind (k - i) (omega arith) (omega arith) (rw (get_or-drop i d (k - i) 0, at) p)
    ]

-- what a search after i says of the whole
pub stops_behind_none : (d : List ℕ) (i : ℕ) (r : Option ℕ) → i ≤ length d → r ≡ None → Nowhere (Passes is_stop d) 0 i → IsFirstByte is_stop (drop i d) None → IsFirstByte is_stop d r
stops_behind_none d i r within e before behind =
    let all : i + length (drop i d) ≡ length d = omega (arith, length-drop i d) in
    rw (e, ← all) (nowhere_behind d i (length (drop i d)) before behind)

pub stops_behind_at : (d : List ℕ) (i k : ℕ) → i ≤ length d → Nowhere (Passes is_stop d) 0 i → IsFirstByte is_stop (drop i d) (Some k) → IsFirstByte is_stop d (Some (i + k))
stops_behind_at d i k within before first = (
  record {
    low = omega arith;
    high = omega (arith, first.0.high, length-drop i d);
    before = nowhere_behind d i k before first.0.before;
  },
  rw (← get_or-drop i d k 0) first.1,
)
