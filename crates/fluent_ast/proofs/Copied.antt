-- A list that is copied element by element, seen through a view.
use Rattle.std.proofs.Common.{◌≡◌, ℕ, ◌+◌, ◌<◌, List, [], ◌∷◌, ◌++◌, length, get_or, take, map, sym, ap, ◌∙◌}
use Rattle.std.proofs.lemmas.List.{take_more, map-append}

-- one more element
pub map-take_more : {A B : Type 0} (view : A → B) (xs : List A) (k : ℕ) (item : A) → k < length xs → item ≡ get_or xs k item → map view (take (k + 1) xs) ≡ map view (take k xs) ++ view item ∷ []
map-take_more view xs k item inside is =
    ap (map view) (take_more xs k item inside)
    ∙ map-append view (take k xs) (get_or xs k item ∷ [])
    ∙ ap (λ y. map view (take k xs) ++ view y ∷ []) (sym is)

-- one more copy
pub map-copied_more : {A B : Type 0} (view : A → B) (copies xs : List A) (k : ℕ) (copy item : A) → k < length xs → item ≡ get_or xs k item → view copy ≡ view item → map view copies ≡ map view (take k xs) → map view (copies ++ copy ∷ []) ≡ map view (take (k + 1) xs)
map-copied_more view copies xs k copy item inside is same below =
    map-append view copies (copy ∷ [])
    ∙ ap (λ ys. ys ++ view copy ∷ []) below
    ∙ ap (λ y. map view (take k xs) ++ y ∷ []) same
    ∙ sym (map-take_more view xs k item inside is)
