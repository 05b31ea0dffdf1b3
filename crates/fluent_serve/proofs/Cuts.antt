-- Where a text is cut: at the first byte that a search finds.
use Rattle.std.proofs.Common.{◌≡◌, ℕ, ◌+◌, ◌-◌, Bool, true, false, length, take, drop, Some, None, refl, ap, arith}
use Rattle.std.specs.Prelude.{◌==◌, slice_range}
use Rattle.std.proofs.lemmas.Bool.{eq-eqb, ne_eqb}
use Rattle.std.proofs.lemmas.List.Sums.{position_or_len_is}
use Rattle.memchr.specs.Find.{IsFirstByte, is_byte}
use Rattle.fluent_serve.specs.Text.{Text, cut_at}

-- a byte that doesn't pass
unless-passes : (b : Bool) → (b ≡ true → ⊥) → b ≡ false
unless-passes true h = absurd (h refl)
unless-passes false h = refl

module _ (separator : ℕ) (s : Text) where
  pub cut_none : IsFirstByte (is_byte separator) s None → (s, None) ≡ cut_at separator s
  cut_none none =
      let end = position_or_len_is (λ b. b == separator) s (length s) 0 (omega arith) (λ k within. unless-passes _ (none k (omega arith) within)) (λ within. absurd (omega (arith, within))) in
      rw (eq-eqb _ _ end) refl

  pub cut_some : (k : ℕ) → IsFirstByte (is_byte separator) s (Some k) → (take k s, Some (drop (k + 1) s)) ≡ cut_at separator s
  cut_some k found =
      let first = found.0 in
      let at = position_or_len_is (λ b. b == separator) s k 0 (omega (arith, first.high)) (λ j below. unless-passes _ (first.before j (omega arith) below)) (λ _. found.1) in
      rw (at, ne_eqb k (length s) (λ e. omega (arith, first.high, e))) refl

pub range-front : (k : ℕ) (s : Text) → slice_range s 0 k ≡ take k s
range-front k s = let whole : k - 0 ≡ k = omega arith in ap (λ n. take n s) whole
