-- Findings of which those of placeables in quotes are left out.
use Rattle.std.proofs.Common.{◌≡◌, ◌∙◌, Bool, true, false, cond, List, [], ◌∷◌, filter, length, map, refl, ap, arith}
use Rattle.lint_findings.specs.Finding.{Finding}
use Rattle.lint_findings.specs.Findings.{unless_quoted}

pub none_left : (b : Bool) (fs : List Finding) → length fs ≡ 0 → fs ≡ unless_quoted b fs
none_left true [] h = refl
none_left false [] h = refl
none_left b (f ∷ fs) h = absurd (omega (arith, h))

-- those that pass after they are seen otherwise
module _ {X Y : Type 0} (f : X → Y) (p : Y → Bool) where
  pub map-filter : (xs : List X) → map f (filter (λ z. p (f z)) xs) ≡ filter p (map f xs)
  map-filter [] = refl
  map-filter (x ∷ xs) =
      elim (p (f x)) as (λ b.
      map f (cond b (x ∷ filter (λ z. p (f z)) xs) (filter (λ z. p (f z)) xs)) ≡ cond b (f x ∷ filter p (map f xs)) (filter p (map f xs))) [
        | true ↦ ap (λ l. f x ∷ l) (map-filter xs)
        | false ↦ map-filter xs
      ]
