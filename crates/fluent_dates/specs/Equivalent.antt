-- A test that decides whether values are the same is an equivalence.
use Rattle.std.specs.Prelude.{◌≡◌, Bool, true, false, Decides}
use mathlib.Core.Path.{refl, sym, ap}
use Rattle.std.specs.Cmp.{IsEquivalence}

-- tests that hold alike
alike : (a b : Bool) → (a ≡ true → b ≡ true) → (b ≡ true → a ≡ true) → a ≡ b
alike true b to from = sym (to refl)
alike false true to from = from refl
alike false false to from = refl

pub decided : {A : Type 0} (E : A → A → Bool) → ((x y : A) → Decides (E x y) (x ≡ y)) → IsEquivalence E
decided E same = record {
  refl = λ x. (same x x).1 refl;
  symm = λ x y. alike (E x y) (E y x) (λ h. (same y x).1 (sym ((same x y).0 h))) (λ h. (same x y).1 (sym ((same y x).0 h)));
  congr = λ x y z h. ap (λ w. E w z) ((same x y).0 h);
}
