-- Lists of findings to which more are added, while a list is gone through.
use Rattle.std.proofs.Common.{◌≡◌, ◌∙◌, ℕ, ◌+◌, ◌<◌, ◌≤◌, List, [], ◌∷◌, ◌++◌, length, map, drop, get_or, Option, Some, option_to_list, refl, sym, ap, append_assoc, add-one, drop-cons}
use Rattle.std.proofs.lemmas.List.{drop_all, map-append}
use Rattle.lint_findings.specs.Finding as f
use Rattle.lint_findings.specs.View.{finding_view}
use Rattle.lint_findings.specs.declared.records.Finding.{Finding}

-- what is left of a list begins with the next item
pub next : {A B : Type 0} (view : A → B) (items : List A) (i : ℕ) (item : A) → i < length items → item ≡ get_or items i item →
    map view (drop i items) ≡ view item ∷ map view (drop (i + 1) items)
next view items i item inside is = ap (map view) (drop-cons items i item inside) ∙ rw (← is, add-one) refl

-- none is left
pub none_left : {A B : Type 0} (view : A → B) (items : List A) (i : ℕ) → length items ≤ i → map view (drop i items) ≡ []
none_left view items i past = rw (drop_all i items past) refl

-- one more is pushed
pub pushed : (old new : List Finding) (one : Finding) (found : f.Finding) → new ≡ old ++ (one ∷ []) → finding_view one ≡ found → map finding_view new ≡ map finding_view old ++ (found ∷ [])
pushed old new one found added viewed = ap (map finding_view) added ∙ map-append finding_view old (one ∷ []) ∙ ap (λ x. map finding_view old ++ (x ∷ [])) viewed

-- those of the first of several are added, before those of the others
pub first_added : (x n rest : List f.Finding) {y l : List f.Finding} → y ≡ x ++ n → l ≡ n ++ rest → y ++ rest ≡ x ++ l
first_added x n rest added is = ap (λ z. z ++ rest) added ∙ append_assoc x n rest ∙ ap (λ z. x ++ z) (sym is)

-- those of remarks are added, and then those of others
pub both_remarks : (at : f.Remark → f.Finding) (x : List f.Finding) (first later as' bs : List f.Remark) → first ≡ as' → later ≡ bs → {y z : List f.Finding} →
    y ≡ x ++ map at first → z ≡ y ++ map at later → z ≡ x ++ map at (as' ++ bs)
both_remarks at x first later as' bs first_is later_is {y} {z} added more =
    more ∙ ap (λ l. l ++ map at later) added ∙ append_assoc x (map at first) (map at later)
    ∙ ap (λ rs. x ++ (map at rs ++ map at later)) first_is ∙ ap (λ rs. x ++ (map at as' ++ map at rs)) later_is
    ∙ ap (λ l. x ++ l) (sym (map-append at as' bs))
