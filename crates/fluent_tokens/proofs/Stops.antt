-- A place at column 0 after a line feed, or the end of a text.
use Rattle.std.proofs.Common.{◌≡◌, ℕ, suc, ◌+◌, ◌-◌, ◌<◌, ◌≤◌, true, ◌⊎◌, inl, inr, [], ◌∷◌, length, drop, get_or, refl, ap, ◌∙◌, arith, subst, sym}
use Rattle.std.specs.Prelude.{◌==◌}
use Rattle.fluent_grammar.specs.Words.{Text, line_feed}
use Rattle.fluent_tokens.specs.Counted.{Cuts}
use Rattle.fluent_tokens.proofs.Counted.{cut_end, cut_by_ascii}
use Rattle.fluent_tokens.proofs.Scanned.{test_of}

-- This many bytes stand before it, in a text that begins at this offset. What follows it is the target.
pub record Stop (at : ℕ) (s target : Text) (place : ℕ) : Type 0 where
  pub count : ℕ
  pub at_count : place ≡ at + count
  pub within : count ≤ length s
  pub is : drop count s ≡ target
  pub cut : (count ≡ length s) ⊎ ((0 < count) × (get_or s (count - 1) 0 ≡ 10))

further : (c : ℕ) (cs : Text) (n : ℕ) → (n ≡ length cs) ⊎ ((0 < n) × (get_or cs (n - 1) 0 ≡ 10)) → (suc n ≡ suc (length cs)) ⊎ ((0 < suc n) × (get_or (c ∷ cs) (suc n - 1) 0 ≡ 10))
further c cs n (inl e) = inl (ap suc e)
further c cs n (inr e) = let m : suc n - 1 ≡ suc (n - 1) = omega (arith, e.0) in inr (omega arith, rw m e.1)

pub stop_end : (at : ℕ) (target : Text) (place : ℕ) → [] ≡ target → place ≡ at → Stop at [] target place
stop_end at target place h e = record { count = 0; at_count = omega (arith, e); within = omega arith; is = h; cut = inl refl }

pub stop_feed : (at c : ℕ) (cs target : Text) → cs ≡ target → (c == line_feed) ≡ true → Stop at (c ∷ cs) target (suc at)
stop_feed at c cs target h e = record {
  count = 1;
  at_count = omega arith;
  within = omega arith;
  is = h;
  cut = inr (omega arith, test_of c 10 e);
}

pub one_more : (at c : ℕ) (cs target next : Text) (place : ℕ) → target ≡ next → Stop (suc at) cs next place → Stop at (c ∷ cs) target place
one_more at c cs target next place h e = record {
  count = suc e.count;
  at_count = omega (arith, e.at_count);
  within = omega (arith, e.within);
  is = e.is ∙ sym h;
  cut = further c cs e.count e.cut;
}

pub stop_from : (at : ℕ) (s target : Text) (place : ℕ) → Stop at s target place → at ≤ place
stop_from at s target place f = omega (arith, f.at_count)

pub stop_value : (at : ℕ) (s target : Text) (place : ℕ) → Stop at s target place → drop (place - at) s ≡ target
stop_value at s target place f =
    let same : place - at ≡ f.count = omega (arith, f.at_count) in
    ap (λ (m : ℕ). drop m s) same ∙ f.is

cut_by : (s : Text) (n : ℕ) → n ≤ length s → (n ≡ length s) ⊎ ((0 < n) × (get_or s (n - 1) 0 ≡ 10)) → Cuts s n
cut_by s n h (inl e) = cut_end s n e
cut_by s n h (inr e) = cut_by_ascii s n h (λ _. omega (arith, e.1))

pub stop_cuts : (at : ℕ) (s target : Text) (place : ℕ) → Stop at s target place → Cuts s (place - at)
stop_cuts at s target place f =
    let same : f.count ≡ place - at = omega (arith, f.at_count) in
    subst (Cuts s) same (cut_by s f.count f.within f.cut)
