-- Two lists whose items say the same, at each index.
use Rattle.std.proofs.Common.{◌≡◌, ◌∙◌, ℕ, zero, suc, ◌<◌, List, [], ◌∷◌, length, get_or, map, sym, ap, arith}
use Rattle.std.proofs.lemmas.List.{length-map}

module _ {A B X : Type 0} (f : A → X) (g : B → X) where
  pub same_length : (xs : List A) (ys : List B) → map f xs ≡ map g ys → length xs ≡ length ys
  same_length xs ys same = sym (length-map xs f) ∙ ap length same ∙ length-map ys g

  pub same_at : (xs : List A) (ys : List B) → map f xs ≡ map g ys → (i : ℕ) (a : A) (b : B) → i < length xs → f (get_or xs i a) ≡ g (get_or ys i b)
  same_at [] ys same i a b inside = absurd (omega (arith, inside))
  same_at (x ∷ xs) [] same i a b inside = absurd cc
  same_at (x ∷ xs) (y ∷ ys) same zero a b inside = cc
  same_at (x ∷ xs) (y ∷ ys) same (suc i) a b inside =
      let others : map f xs ≡ map g ys = cc in
      same_at xs ys others i a b (omega (arith, inside))
