-- Lists of remarks to which more are added.
use Rattle.std.proofs.Common.{◌≡◌, ◌∙◌, ℕ, ◌+◌, ◌<◌, List, [], ◌∷◌, ◌++◌, length, map, drop, get_or, Option, Some, None, option_map, option_to_list, refl, sym, ap, append_assoc, add-one, append-nil, drop-cons}
use Rattle.std.proofs.lemmas.List.{map-append}
use Rattle.std.proofs.lemmas.Option.{same_Some}
use Rattle.lint_findings.specs.Finding as f
use Rattle.lint_findings.specs.Flaws as flaws
use Rattle.lint_findings.specs.View.{remark_view}
use Rattle.lint_findings.specs.declared.remark.Remark.{Remark}
use Rattle.lint_flaws.specs.FlawView.{flaw_view}
use Rattle.lint_flaws.specs.declared.flaw.Flaw.{Flaw}

-- one more is pushed
pub pushed : (old new : List Remark) (one : Remark) (said : f.Remark) → new ≡ old ++ (one ∷ []) → remark_view one ≡ said → map remark_view new ≡ map remark_view old ++ (said ∷ [])
pushed old new one said added viewed = ap (map remark_view) added ∙ map-append remark_view old (one ∷ []) ∙ ap (λ r. map remark_view old ++ (r ∷ [])) viewed

-- what is said of the next item of a list
pub one_more : {A : Type 0} (say : A → f.Remark) (items : List A) (i : ℕ) (default item : A) (old new : List Remark) (one : Remark) → i < length items → item ≡ get_or items i default →
    new ≡ old ++ (one ∷ []) → remark_view one ≡ say item → map remark_view new ++ map say (drop (i + 1) items) ≡ map remark_view old ++ map say (drop i items)
one_more say items i default item old new one inside is added viewed =
    let rest = map say (drop (i + 1) items) in
    let first : map say (drop i items) ≡ say item ∷ rest = ap (map say) (drop-cons items i default inside) ∙ rw (← is, add-one) refl in
    ap (λ z. z ++ rest) (pushed old new one (say item) added viewed) ∙ append_assoc (map remark_view old) (say item ∷ []) rest ∙ ap (λ z. map remark_view old ++ z) (sym first)

-- what is said, if anything is
module _ {A : Type 0} (say : A → f.Remark) (old : List Remark) where
  pub some_added : (said : Option A) (found : Option Remark) (one : Remark) (new : List Remark) → option_map remark_view found ≡ option_map say said → found ≡ Some one → new ≡ old ++ (one ∷ []) →
      map remark_view new ≡ map remark_view old ++ map say (option_to_list said)
  some_added None found one new is some added = let clash : Some (remark_view one) ≡ None = sym (ap (option_map remark_view) some) ∙ is in absurd cc
  some_added (Some x) found one new is some added =
      pushed old new one (say x) added (same_Some (remark_view one) (say x) (sym (ap (option_map remark_view) some) ∙ is))

  pub none_added : (said : Option A) (found : Option Remark) → option_map remark_view found ≡ option_map say said → found ≡ None → map remark_view old ≡ map remark_view old ++ map say (option_to_list said)
  none_added None found is none = sym (append-nil (map remark_view old))
  none_added (Some x) found is none = let clash : None ≡ Some (say x) = sym (ap (option_map remark_view) none) ∙ is in absurd cc

-- the one flaw of a node
pub one_flaw : (flaw : Option Flaw) (found : Flaw) (of_node : List flaws.Flaw) → map flaw_view (option_to_list flaw) ≡ of_node → flaw ≡ Some found → (flaw_view found ∷ []) ≡ of_node
one_flaw flaw found of_node all is = sym (ap (λ x. map flaw_view (option_to_list x)) is) ∙ all
