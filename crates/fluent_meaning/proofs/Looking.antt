-- A path that a loop goes through by index: what is found in what is left of it.
use Rattle.std.proofs.Common.{◌≡◌, ℕ, suc, ◌+◌, ◌<◌, Bool, true, false, List, ◌∷◌, map, drop, get_or, length, ap, sym, ◌∙◌, arith, drop-cons, Decides}
use Rattle.std.specs.Prelude.{◌||◌}
use Rattle.fluent_grammar.specs.Tree.{Elements}
use Rattle.fluent_meaning.specs.Substitution.{is_on_path}
use Rattle.fluent_meaning.proofs.OnPath.{on-path-next}

-- what is left from an index on begins with the element there
pub drop-here : {A : Type 0} (xs : List A) (i : ℕ) (x : A) → i < length xs → x ≡ get_or xs i x → drop i xs ≡ x ∷ drop (i + 1) xs
drop-here xs i x h e =
    let next : suc i ≡ i + 1 = omega arith in
    drop-cons xs i x h ∙ ap (λ y. y ∷ drop (suc i) xs) (sym e) ∙ ap (λ n. x ∷ drop n xs) next

-- by any test that decides whether the pattern there is the one that is looked for
module _ {A : Type 0} (view : A → Elements) (xs : List A) (i : ℕ) (x : A) (es : Elements) (within : i < length xs) (here : x ≡ get_or xs i x) (b : Bool) (same : Decides b (view x ≡ es)) where
  path-steps : is_on_path es (map view (drop i xs)) ≡ (b || is_on_path es (map view (drop (i + 1) xs)))
  path-steps = ap (λ ys. is_on_path es (map view ys)) (drop-here xs i x within here) ∙ on-path-next b es (view x) (map view (drop (i + 1) xs)) same

  pub path-found : b ≡ true → is_on_path es (map view (drop i xs)) ≡ true
  path-found h = path-steps ∙ ap (λ c. c || is_on_path es (map view (drop (i + 1) xs))) h

  pub path-passed : b ≡ false → is_on_path es (map view (drop i xs)) ≡ is_on_path es (map view (drop (i + 1) xs))
  path-passed h = path-steps ∙ ap (λ c. c || is_on_path es (map view (drop (i + 1) xs))) h
