-- The line at the front of a text, by what is told of its bytes.
use Rattle.std.proofs.Common.{◌≡◌, ◌≢◌, ℕ, zero, suc, ◌+◌, ◌-◌, ◌*◌, ◌/◌, ◌^◌, ◌<◌, ◌≤◌, Bool, true, false, cond, leb, ◌&&◌, List, [], ◌∷◌, map, length, take, drop, get_or, refl, sym, ap, ◌∙◌, arith, inl, inr}
use Rattle.std.specs.Prelude.{◌==◌, nat_lt, Some}
use Rattle.std.proofs.Math.Nat.{div-one, zero-div}
use Rattle.std.proofs.lemmas.Nat.{shr-shr, shr_high}
use Rattle.std.proofs.lemmas.Bool.{cases_lt, cases_eq, le-leb, lt-leb}
use Rattle.std.proofs.lemmas.Bool.Decides.{nat_tests}
use Rattle.std.proofs.lemmas.List.{drop-take, drop_more}
use Rattle.memchr.specs.Find.{Nowhere, Passes, IsFirstByte}
use lib.Count.{count_trailing_zeros}
use lib.Lanes.{chunk, mask_l}
use Rattle.fluent_grammar.specs.Words.{Text, after_line_end}
use Rattle.fluent_tokens.specs.Bytes.{is_line_feed, is_brace}
use Rattle.fluent_tokens.specs.Counted.{Cuts, IsLine, before_feed, is_no_brace, is_plain}
use Rattle.fluent_tokens.proofs.Masked.{first_inside, first_passes, none_passes, none_to, at_first}
use Rattle.fluent_tokens.proofs.Measured.{line_ends, before_feed_le, plain_front, brace_front, other}
use Rattle.fluent_tokens.proofs.Scanned.{Plain, test_of}

-- ---- a mask after this many bytes
half : (b : Bool) (m : ℕ) → (cond b 1 0 + 2 * m) / 2 ^ 1 ≡ m
half true m = let e : 1 + 2 * m ≡ m * 2 ^ 1 + 1 = omega arith in ap (λ z. z / 2 ^ 1) e ∙ shr_high m 1 1 (omega arith)
half false m = let e : 0 + 2 * m ≡ m * 2 ^ 1 + 0 = omega arith in ap (λ z. z / 2 ^ 1) e ∙ shr_high m 1 0 (omega arith)

mask_drop : (bs : List Bool) (n : ℕ) → mask_l bs / 2 ^ n ≡ mask_l (drop n bs)
mask_drop bs zero = div-one (mask_l bs)
mask_drop [] (suc n) = zero-div (2 ^ suc n)
mask_drop (b ∷ bs) (suc n) =
    let e : suc n ≡ 1 + n = omega arith in
    ap (λ k. mask_l (b ∷ bs) / 2 ^ k) e ∙ sym (shr-shr (mask_l (b ∷ bs)) 1 n) ∙ ap (λ z. z / 2 ^ n) (half b (mask_l bs)) ∙ mask_drop bs n

map_drop : (p : ℕ → Bool) (n : ℕ) (xs : Text) → drop n (map p xs) ≡ map p (drop n xs)
map_drop p zero xs = refl
map_drop p (suc n) [] = refl
map_drop p (suc n) (x ∷ xs) = map_drop p n xs

front_behind : (t : Text) (c m : ℕ) → m ≤ c → drop m (take c t) ≡ take (c - m) (drop m t)
front_behind t c m h = let e : c ≡ m + (c - m) = omega (arith, h) in ap (λ k. drop m (take k t)) e ∙ drop-take m (c - m) t

pub mask_behind : (p : ℕ → Bool) (t : Text) (c k x : ℕ) → k < c → x ≡ mask_l (map p (chunk 0 c t)) → x / 2 ^ k / 2 ^ 1 ≡ mask_l (map p (chunk 0 (c - k - 1) (drop (k + 1) t)))
mask_behind p t c k x h e =
    let n : c - (k + 1) ≡ c - k - 1 = omega arith in
    shr-shr x k 1 ∙ ap (λ z. z / 2 ^ (k + 1)) e ∙ mask_drop (map p (take c t)) (k + 1)
    ∙ ap mask_l (map_drop p (k + 1) (take c t) ∙ ap (map p) (front_behind t c (k + 1) (omega (arith, h)) ∙ ap (λ z. take z (drop (k + 1) t)) n))

-- ---- a line feed
feed_here : (s : Text) (k : ℕ) → is_line_feed (get_or s k 0) ≡ true → get_or s k 0 ≡ 10
feed_here s k h = grind (arith, nat_tests)

brace_here : (c : ℕ) → is_brace c ≡ true → is_no_brace c ≡ false
brace_here c h = grind (arith, nat_tests)

no_braces : (s : Text) (k : ℕ) → Nowhere (Passes is_line_feed s) 0 k → Nowhere (Passes is_brace s) 0 k → Plain s k
no_braces s k f g = record {
  brace = λ j h e. g j (omega arith) h (grind (arith, nat_tests));
  close = λ j h e. g j (omega arith) h (grind (arith, nat_tests));
  line = λ j h e. f j (omega arith) h (grind (arith, nat_tests));
}

-- a brace before the line feed stands before the line's end, too, since it is no carriage return
before_end : (s : Text) (k b r : ℕ) (w : Bool) → (w ≡ true → get_or s (k - 1) 0 ≡ 13) → r ≡ cond w (k - 1) k → b < k → is_no_brace (get_or s b 0) ≡ false → b < r
before_end s k b r true f e h x = elim (cases_eq b (k - 1)) [
  | inl last ↦ absurd (other (get_or s b 0) 13 x (omega arith) (rw last (f refl)))
  | inr early ↦ omega (arith, e)
]
before_end s k b r false f e h x = omega (arith, e)

brace_in_line : (s : Text) (k b r : ℕ) → r ≡ before_feed s k → b < k → is_no_brace (get_or s b 0) ≡ false → b < r
brace_in_line s k b r e h x = before_end s k b r (nat_lt 0 k && get_or s (k - 1) 0 == 13) (λ w. grind (arith, nat_tests)) e h x

-- ---- the next line
at_feed : (s : Text) (k : ℕ) → k < length s → get_or s k 0 ≡ 10 → after_line_end (drop k s) ≡ Some (drop (k + 1) s)
at_feed s k h b = let e = drop_more s k 0 h in rw (e, b) refl

at_crlf : (s : Text) (k : ℕ) → 0 < k → k < length s → get_or s k 0 ≡ 10 → get_or s (k - 1) 0 ≡ 13 → after_line_end (drop (k - 1) s) ≡ Some (drop (k + 1) s)
at_crlf s k z h b a =
    let n : k - 1 + 1 ≡ k = omega (arith, z) in
    let e = drop_more s (k - 1) 0 (omega (arith, h)) in
    let f = drop_more s k 0 h in
    rw (e, a, n, f, b) refl

next_by : (s : Text) (k r : ℕ) (w : Bool) → (w ≡ true → (0 < k) × (get_or s (k - 1) 0 ≡ 13)) → r ≡ cond w (k - 1) k → k < length s → get_or s k 0 ≡ 10
    → (after_line_end (drop r s) ≡ Some (drop (k + 1) s)) × (r < k + 1)
next_by s k r true f e h b = let w = f refl in (ap (λ z. after_line_end (drop z s)) e ∙ at_crlf s k w.0 h b w.1, omega (arith, e))
next_by s k r false f e h b = (ap (λ z. after_line_end (drop z s)) e ∙ at_feed s k h b, omega (arith, e))

-- ---- the bytes that were passed
-- a brace stands among the first bytes
pub record Braced (s : Text) (seen : ℕ) : Type 0 where
  pub place : ℕ
  pub low : place < seen
  pub brace : is_brace (get_or s place 0) ≡ true

module _ (s : Text) (seen count braces : ℕ) (g : braces ≡ mask_l (map is_brace (chunk 0 count (drop seen s)))) (room : seen + count ≤ length s) (short : count ≤ 64) where
  pub plain_more : (p : Bool) → (p ≡ true → Nowhere (Passes is_brace s) 0 seen) → (p && braces == 0) ≡ true → Nowhere (Passes is_brace s) 0 (seen + count)
  plain_more true h e = none_passes is_brace s seen count braces g room (test_of braces 0 e) (h refl)
  plain_more false h e = absurd cc

  pub braced_more : (p : Bool) → (p ≡ true → Nowhere (Passes is_brace s) 0 seen) → (p ≡ false → Braced s seen) → (p && braces == 0) ≡ false → Braced s (seen + count)
  braced_more true h b e =
      let some : braces ≢ 0 = λ z. grind (arith, nat_tests) in
      record {
        place = seen + count_trailing_zeros 64 braces;
        low = omega (arith, first_inside is_brace s seen count braces g room short some);
        brace = (first_passes is_brace s seen count braces g room short some (h refl)).1;
      }
  braced_more false h b e = let w = b refl in record { place = w.place; low = omega (arith, w.low); brace = w.brace }

module _ (s : Text) (seen count feeds braces : ℕ) (f : feeds ≡ mask_l (map is_line_feed (chunk 0 count (drop seen s)))) (g : braces ≡ mask_l (map is_brace (chunk 0 count (drop seen s))))
    (room : seen + count ≤ length s) (short : count ≤ 64) (some : feeds ≢ 0) (before : Nowhere (Passes is_line_feed s) 0 seen) where
  first : IsFirstByte is_line_feed s (Some (seen + count_trailing_zeros 64 feeds))
  first = first_passes is_line_feed s seen count feeds f room short some before

  pub feed_inside : count_trailing_zeros 64 feeds < count
  feed_inside = first_inside is_line_feed s seen count feeds f room short some

  pub told_line : (r : ℕ) → r ≡ before_feed s (seen + count_trailing_zeros 64 feeds) → IsLine s r × Cuts s r
  told_line r e = line_ends s (seen + count_trailing_zeros 64 feeds) r e first.0.high (feed_here s _ first.1) first.0.before

  pub told_next : (r : ℕ) → r ≡ before_feed s (seen + count_trailing_zeros 64 feeds)
      → (after_line_end (drop r s) ≡ Some (drop (seen + count_trailing_zeros 64 feeds + 1) s)) × (r < seen + count_trailing_zeros 64 feeds + 1)
  told_next r e =
      let k = seen + count_trailing_zeros 64 feeds in
      next_by s k r (nat_lt 0 k && get_or s (k - 1) 0 == 13) (λ w. grind (arith, nat_tests)) e first.0.high (feed_here s k first.1)

  pub told_plain : (p : Bool) → (p ≡ true → Nowhere (Passes is_brace s) 0 seen) → (p ≡ false → Braced s seen) → (r : ℕ) → r ≡ before_feed s (seen + count_trailing_zeros 64 feeds)
      → (p && leb (count_trailing_zeros 64 feeds) (count_trailing_zeros 64 braces)) ≡ is_plain (take r s)
  told_plain true h b r e =
      let k = seen + count_trailing_zeros 64 feeds in
      let x = count_trailing_zeros 64 feeds in
      let y = count_trailing_zeros 64 braces in
      elim (cases_lt y x) [
        | inl early ↦
            let brace = at_first is_brace s seen count braces g room short (omega (arith, early, feed_inside)) (h refl) in
            let here = brace_here (get_or s (seen + y) 0) brace in
            lt-leb x y early ∙ sym (brace_front s (seen + y) r (brace_in_line s k (seen + y) r e (omega (arith, early)) here) here)
        | inr late ↦
            let plain = no_braces s k first.0.before (none_to is_brace s seen count braces g room short x (omega (arith, feed_inside)) (omega (arith, late)) (h refl)) in
            le-leb x y (omega (arith, late)) ∙ sym (plain_front s k r plain (before_feed_le s k r e))
      ]
  told_plain false h b r e =
      let k = seen + count_trailing_zeros 64 feeds in
      let w = b refl in
      let here = brace_here (get_or s w.place 0) w.brace in
      sym (brace_front s w.place r (brace_in_line s k w.place r e (omega (arith, w.low)) here) here)
