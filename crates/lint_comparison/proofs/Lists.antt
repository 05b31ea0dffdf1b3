-- What is found of the items of a list, one after the other.
use Rattle.std.proofs.Common.{◌≡◌, ◌∙◌, ℕ, ◌+◌, ◌<◌, List, [], ◌∷◌, ◌++◌, length, map, take, get_or, refl, ap, sym, append-nil, append_assoc}
use Rattle.std.specs.List.{flat_map}
use Rattle.std.proofs.lemmas.List.Concat.{flat_map-append}
use Rattle.fluent_ast.proofs.Copied.{map-take_more}

-- what is found of one more item is added
pub one_more : {A B C : Type 0} (view : A → B) (found : B → List C) (items : List A) (i : ℕ) (item : A) → i < length items → item ≡ get_or items i item → (start : List C) {old new : List C} →
    new ≡ old ++ found (view item) → old ≡ start ++ flat_map found (map view (take i items)) → new ≡ start ++ flat_map found (map view (take (i + 1) items))
one_more view found items i item inside is start {old} {new} added so_far =
    let before = flat_map found (map view (take i items)) in
    let more : flat_map found (map view (take (i + 1) items)) ≡ before ++ found (view item) =
    ap (flat_map found) (map-take_more view items i item inside is) ∙ flat_map-append found (map view (take i items)) (view item ∷ [])
    ∙ ap (λ xs. before ++ xs) (append-nil (found (view item))) in
    added ∙ ap (λ xs. xs ++ found (view item)) so_far ∙ append_assoc start before (found (view item)) ∙ sym (ap (λ xs. start ++ xs) more)

pub flat_map-map : {A B C : Type 0} (g : A → B) (found : B → List C) (xs : List A) → flat_map found (map g xs) ≡ flat_map (λ x. found (g x)) xs
flat_map-map g found [] = refl
flat_map-map g found (x ∷ xs) = ap (λ ys. found (g x) ++ ys) (flat_map-map g found xs)
