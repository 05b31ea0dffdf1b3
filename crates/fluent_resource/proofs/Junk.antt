-- Lists that are made of the same list are equally long.
use Rattle.std.proofs.Common.{◌≡◌, suc, List, [], ◌∷◌, length, map, refl, ap, sym, ◌∙◌}

pub none_of : {A B C : Type 0} (f : A → B) (g : A → C) (xs : List A) → map f xs ≡ [] → map g xs ≡ []
none_of f g [] h = refl
none_of f g (x ∷ xs) h = cc

same_length : {A B : Type 0} (f : A → B) (xs : List A) → length (map f xs) ≡ length xs
same_length f [] = refl
same_length f (x ∷ xs) = ap suc (same_length f xs)

pub as_many : {A B C D : Type 0} (f : A → B) (g : A → C) (v : D → C) (xs : List A) (ds : List D) → map v ds ≡ map g xs → length (map f xs) ≡ length ds
as_many f g v xs ds h = same_length f xs ∙ (sym (same_length g xs) ∙ (ap (λ cs. length cs) (sym h) ∙ same_length v ds))
