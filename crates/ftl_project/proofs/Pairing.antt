-- Lists whose elements belong together, one by one.
use Rattle.std.proofs.Common.{◌≡◌, ℕ, ◌+◌, ◌<◌, ◌≤◌, List, [], ◌∷◌, ◌++◌, length, get_or, take, sym, subst}
use Rattle.std.proofs.lemmas.List.{take_all, take_more}
use Rattle.ftl_project.specs.References.{Paired}

module _ {A B : Type 0} (Is : A → B → Type 0) where
  -- one pair more
  pub paired_more : (xs : List A) (bs : List B) (a : A) (b : B) → Paired Is xs bs → Is a b → Paired Is (xs ++ a ∷ []) (bs ++ b ∷ [])
  paired_more [] [] a b so_far one = (one, tt)
  paired_more [] (y ∷ bs) a b so_far one = absurd so_far
  paired_more (x ∷ xs) [] a b so_far one = absurd so_far
  paired_more (x ∷ xs) (y ∷ bs) a b so_far one = (so_far.0, paired_more xs bs a b so_far.1 one)

  pub paired_next : (xs : List A) (i : ℕ) (d : A) (bs new : List B) (b : B) → i < length xs → Paired Is (take i xs) bs → Is (get_or xs i d) b → new ≡ bs ++ b ∷ [] → Paired Is (take (i + 1) xs) new
  paired_next xs i d bs new b within so_far one made =
      subst (λ l. Paired Is l new) (sym (take_more xs i d within))
      (subst (λ l. Paired Is (take i xs ++ get_or xs i d ∷ []) l) (sym made) (paired_more (take i xs) bs (get_or xs i d) b so_far one))

  pub paired_all : (xs : List A) (i : ℕ) (bs : List B) → length xs ≤ i → Paired Is (take i xs) bs → Paired Is xs bs
  paired_all xs i bs past so_far = subst (λ l. Paired Is l bs) (take_all i xs past) so_far
