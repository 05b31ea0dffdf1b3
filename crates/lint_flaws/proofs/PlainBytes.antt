-- Tests of bytes.
use Rattle.std.proofs.Common.{◌≡◌, ◌∙◌, ℕ, Bool, true, false, refl, sym, ap}
use Rattle.std.specs.Prelude.{◌==◌, ◌||◌}
use Rattle.std.proofs.lemmas.Bool.{eqb-true, or_parts}

-- a byte that passes a test differs from one that doesn't
pub differs : (passes : ℕ → Bool) (a c : ℕ) → passes a ≡ false → passes c ≡ true → (c == a) ≡ false
differs passes a c fails passed = by (c == a) refl
  where
    by : (b : Bool) → (c == a) ≡ b → b ≡ false
    by true e = absurd (let same = ap passes (eqb-true c a e) ∙ fails in cc)
    by false e = refl

-- one that fails it from one that passes
pub differs_too : (passes : ℕ → Bool) (a c : ℕ) → passes a ≡ true → passes c ≡ false → (c == a) ≡ false
differs_too passes a c passed fails = by (c == a) refl
  where
    by : (b : Bool) → (c == a) ≡ b → b ≡ false
    by true e = absurd (let same = ap passes (eqb-true c a e) ∙ passed in cc)
    by false e = refl

pub first_none : (a b : Bool) → (a || b) ≡ false → a ≡ false
first_none a b e = (or_parts a b e).0

pub second_none : (a b : Bool) → (a || b) ≡ false → b ≡ false
second_none a b e = (or_parts a b e).1
