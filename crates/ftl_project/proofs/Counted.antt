-- Counts that are added, one after the other.
use Rattle.std.proofs.Common.{◌≡◌, ◌∙◌, ℕ, ◌+◌, ◌<◌, ◌≤◌, List, ◌∷◌, length, get_or, drop, map, ap, sym, drop-cons, add-one}
use Rattle.std.proofs.lemmas.List.{drop_all}
use Rattle.fluent_lint.specs.Table.{both_counts}
use Rattle.fluent_lint.specs.declared.table.Counts.{Counts}
use Rattle.ftl_project.specs.Counted.{and_all}

module _ {A : Type 0} (counted : A → Counts) (items : List A) where
  -- those of one item more
  pub one_counted : (sum new : Counts) (i : ℕ) (item : A) → i < length items → item ≡ get_or items i item → new ≡ both_counts sum (counted item) →
      and_all sum (map counted (drop i items)) ≡ and_all new (map counted (drop (i + 1) items))
  one_counted sum new i item within is both =
      let left : drop i items ≡ get_or items i item ∷ drop (i + 1) items = rw add-one (drop-cons items i item within) in
      ap (λ (xs : List A). and_all sum (map counted xs)) left
      ∙ ap (λ (c : Counts). and_all c (map counted (drop (i + 1) items))) (ap (λ (x : A). both_counts sum (counted x)) (sym is) ∙ sym both)

  -- with no item left
  pub all_counted : (sum : Counts) (i : ℕ) → length items ≤ i → and_all sum (map counted (drop i items)) ≡ sum
  all_counted sum i over = ap (λ (xs : List A). and_all sum (map counted xs)) (drop_all i items over)
