-- Lists that are made element by element.
use Rattle.std.proofs.Common.{◌≡◌, ℕ, ◌+◌, ◌<◌, List, [], ◌∷◌, ◌++◌, length, get_or, take, map, Result, Ok, Err, IfOk, sym, ap, ◌∙◌}
use Rattle.std.proofs.lemmas.List.{take_more, map-append}

-- one more element, seen through a view, is what there is of one more
pub map-next : {A B X : Type 0} (view : A → X) (of : B → X) (made : List A) (xs : List B) (k : ℕ) (d : B) (new : A) →
    k < length xs → view new ≡ of (get_or xs k d) → map view made ≡ map of (take k xs) → map view (made ++ new ∷ []) ≡ map of (take (k + 1) xs)
map-next view of made xs k d new inside same below =
    map-append view made (new ∷ [])
    ∙ ap (λ ys. ys ++ view new ∷ []) below
    ∙ ap (λ y. map of (take k xs) ++ y ∷ []) same
    ∙ sym (ap (map of) (take_more xs k d inside) ∙ map-append of (take k xs) (get_or xs k d ∷ []))

-- one more of what is seen of the first elements
pub one-more : {B X : Type 0} (of : B → X) (xs : List B) (k : ℕ) (d : B) → k < length xs → (made : List X) → made ≡ map of (take k xs) → made ++ of (get_or xs k d) ∷ [] ≡ map of (take (k + 1) xs)
one-more of xs k d inside made below =
    ap (λ ys. ys ++ of (get_or xs k d) ∷ []) below
    ∙ sym (ap (map of) (take_more xs k d inside) ∙ map-append of (take k xs) (get_or xs k d ∷ []))

-- what follows for the value of a call that succeeds
pub if_ok-map : {A E : Type 0} {P Q : A → Type 0} (r : Result A E) → ((a : A) → P a → Q a) → IfOk r P → IfOk r Q
if_ok-map (Ok a) follows holds = follows a holds
if_ok-map (Err e) follows holds = tt
