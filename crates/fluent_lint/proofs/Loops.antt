-- Loops that go through a list from its front.
use Rattle.std.proofs.Common.{◌≡◌, ◌∙◌, ℕ, ◌+◌, ◌<◌, List, [], ◌∷◌, ◌++◌, length, take, get_or, map, sym, ap, append-nil}
use Rattle.std.proofs.lemmas.List.{map-append, take_more}
use Rattle.std.proofs.lemmas.List.Concat.{flat_map-append}
use Rattle.std.specs.List.{flat_map}

module _ {X : Type 0} (xs : List X) (i : ℕ) (d : X) (inside : i < length xs) (is : d ≡ get_or xs i d) where
  -- the front with one item more
  pub front_more : take (i + 1) xs ≡ take i xs ++ d ∷ []
  front_more = take_more xs i d inside ∙ ap (λ x. take i xs ++ x ∷ []) (sym is)

  pub front_mapped : {Y : Type 0} (f : X → Y) → map f (take (i + 1) xs) ≡ map f (take i xs) ++ f d ∷ []
  front_mapped f = ap (map f) front_more ∙ map-append f (take i xs) (d ∷ [])

  -- one more was pushed
  pub one_pushed : {Y Z : Type 0} (view : Y → Z) (f : X → Z) (old new : List Y) (one : Y) → new ≡ old ++ one ∷ [] → view one ≡ f d →
      map view old ≡ map f (take i xs) → map view new ≡ map f (take (i + 1) xs)
  one_pushed view f old new one pushed here before =
      ap (map view) pushed
      ∙ map-append view old (one ∷ [])
      ∙ ap (λ l. l ++ view one ∷ []) before
      ∙ ap (λ z. map f (take i xs) ++ z ∷ []) here
      ∙ sym (front_mapped f)

  pub front_flat : {Y Z : Type 0} (view : X → Y) (f : Y → List Z) → flat_map f (map view (take i xs)) ++ f (view d) ≡ flat_map f (map view (take (i + 1) xs))
  front_flat view f =
      ap (λ l. flat_map f (map view (take i xs)) ++ l) (sym (append-nil (f (view d))))
      ∙ sym (flat_map-append f (map view (take i xs)) (view d ∷ []))
      ∙ ap (flat_map f) (sym (front_mapped view))
