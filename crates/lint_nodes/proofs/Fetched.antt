-- What `next_of` found.
use Rattle.std.proofs.Common.{◌≡◌, ℕ, zero, suc, ◌<◌, ◌≤◌, List, [], ◌∷◌, length, get_or, Some, None, sym, arith}
use Rattle.std.specs.List.{slice_get}

pub there : (xs : List ℕ) (i x : ℕ) → slice_get xs i ≡ Some x → (i < length xs) × (x ≡ get_or xs i 0)
there [] i x e = absurd cc
there (y ∷ ys) zero x e = (omega arith, let is : y ≡ x = cc in sym is)
there (y ∷ ys) (suc i) x e = let rest = there ys i x e in (let inner = rest.0 in omega arith, rest.1)

pub past : (xs : List ℕ) (i : ℕ) → slice_get xs i ≡ None → length xs ≤ i
past [] i e = omega arith
past (y ∷ ys) zero e = absurd cc
past (y ∷ ys) (suc i) e = let rest = past ys i e in omega arith
