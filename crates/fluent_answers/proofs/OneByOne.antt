-- The ids and notices of what is added one by one.
use Rattle.std.proofs.Common.{◌≡◌, ℕ, ◌+◌, ◌<◌, false, List, [], ◌∷◌, ◌++◌, length, get_or, take, sym, ap, ◌∙◌, append-nil, Bool}
use Rattle.std.proofs.lemmas.List.{take_more}
use Rattle.std.proofs.lemmas.Grind.{flat_map-append}
use Rattle.std.specs.List.{flat_map}
use Rattle.fluent_grammar.specs.Words.{Text}
use Rattle.fluent_value.specs.declared.function.NoFunction.{NoFunction}
use Rattle.fluent_meaning.specs.Ids.{Ids, Meaning, with_ids, notices}
use Rattle.fluent_meaning.proofs.InTurn.{with_ids-++, notices-++}

module _ {A : Type 0} (pairs_of : A → List (Text × Meaning NoFunction)) (start : Ids NoFunction) (all : List A) (k : ℕ) (one : A) (inside : k < length all) (is : one ≡ get_or all k one) where
  abbrev before : List (Text × Meaning NoFunction)
  before = flat_map pairs_of (take k all)

  -- the pairs of one more
  pairs-more : flat_map pairs_of (take (k + 1) all) ≡ before ++ pairs_of one
  pairs-more =
      ap (flat_map pairs_of) (take_more all k one inside)
      ∙ flat_map-append pairs_of (take k all) (get_or all k one ∷ [])
      ∙ ap (λ x. before ++ x) (append-nil (pairs_of (get_or all k one)) ∙ ap pairs_of (sym is))

  pub pairs-ids-next : (overriding : Bool) → with_ids overriding start (flat_map pairs_of (take (k + 1) all)) ≡ with_ids overriding (with_ids overriding start before) (pairs_of one)
  pairs-ids-next overriding = ap (with_ids overriding start) pairs-more ∙ with_ids-++ overriding start before (pairs_of one)

  pub pairs-notices-next : notices start (flat_map pairs_of (take (k + 1) all)) ≡ notices start before ++ notices (with_ids false start before) (pairs_of one)
  pairs-notices-next = ap (notices start) pairs-more ∙ notices-++ start before (pairs_of one)
