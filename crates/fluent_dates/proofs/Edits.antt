-- Lists that are changed item by item.
use Rattle.std.proofs.Common.{◌≡◌, ◌∙◌, ℕ, ◌+◌, ◌<◌, ◌≤◌, List, [], ◌∷◌, ◌++◌, refl, ap, ap₂, sym, append_assoc, append-nil, take, drop, set, get_or, length, map, arith}
use Rattle.std.proofs.lemmas.Grind.{take-set_at}
use Rattle.std.proofs.lemmas.List.{drop_more, drop-set-lt, take_all}

-- what is before an item that was set, the item, and what is after it
pub one_set : {X : Type 0} (xs rest : List X) (i : ℕ) (y : X) → i < length xs → take (i + 1) (set xs i y) ++ rest ≡ take i xs ++ y ∷ rest
one_set xs rest i y inside =
    ap (λ front. front ++ rest) (take-set_at xs i (i + 1) y refl inside) ∙ append_assoc (take i xs) (y ∷ []) rest

-- one more item of a list was made of that of another
pub one_mapped : {X Y : Type 0} (f : X → Y) (done : List Y) (xs : List X) (i : ℕ) (d : X) (y : Y) → i < length done → i < length xs → y ≡ f (get_or xs i d)
    → take (i + 1) (set done i y) ++ map f (drop (i + 1) xs) ≡ take i done ++ map f (drop i xs)
one_mapped f done xs i d y inside there is =
    one_set done (map f (drop (i + 1) xs)) i y inside
    ∙ ap (λ rest. take i done ++ rest) (ap (λ z. z ∷ map f (drop (i + 1) xs)) is ∙ ap (map f) (sym (drop_more xs i d there)))

-- one more item of a list was changed
pub one_changed : {X : Type 0} (f : X → X) (xs : List X) (i : ℕ) (d y : X) → i < length xs → y ≡ f (get_or xs i d)
    → take (i + 1) (set xs i y) ++ map f (drop (i + 1) (set xs i y)) ≡ take i xs ++ map f (drop i xs)
one_changed f xs i d y inside is =
    ap (λ rest. take (i + 1) (set xs i y) ++ map f rest) (drop-set-lt (i + 1) xs i y (omega arith))
    ∙ one_mapped f xs xs i d y inside inside is

-- all items were set
pub all_set : {X : Type 0} (xs rest : List X) (i : ℕ) → length xs ≤ i → rest ≡ [] → xs ≡ take i xs ++ rest
all_set xs rest i past none = sym (ap₂ (λ front back. front ++ back) (take_all i xs past) none ∙ append-nil xs)
