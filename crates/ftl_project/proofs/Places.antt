-- Where a path is among others that ascend.
use Rattle.std.proofs.Common.{◌≡◌, ◌∙◌, false, ◌||◌, ℕ, zero, suc, ◌<◌, ◌≤◌, List, [], ◌∷◌, length, Some, Result, Ok, Err, refl, ap, sym, arith}
use Rattle.std.specs.Prelude.{slice_index_or}
use Rattle.std.specs.List.{AllWithin, AllByRecursion, HoldsAt, slice_get}
use Rattle.std.specs.List.Sorted.{IsStrictlySortedBy, IsNonDecreasingBy, IsBinarySearchResult, IsSearchInRange}
use Rattle.std.specs.declared.cmp.Ordering.{Ordering}
use Rattle.std.specs.declared.cmp.Ordering.TheVariants.{Less, Equal, Greater}
use Rattle.std.specs.Ordering.{nat_cmp, ordering_index, is_eq}
use Rattle.std.specs.Cmp.Lexicographic.{slice_cmp, nat_list_cmp_total}
use Rattle.std.specs.Result.{result_ok}
use Rattle.std.specs.Str.{bytes_eq}
use Rattle.std.proofs.lemmas.Cmp.{alike_right}
use Rattle.std.proofs.lemmas.Map.Keys.{sorted_tail}
use Rattle.std.proofs.lemmas.Map.Text.{is_eq-slice_cmp}
use Rattle.std.proofs.lemmas.Slice.Eq.{bytes_eq-Decides}
use denote.Ref.{Bor}
use Rattle.fluent_grammar.specs.Words.{Text}
use Rattle.fluent_project.specs.Pairs.{is_among}
use Rattle.fluent_project.specs.Views.{plain}
use Rattle.ftl_project.specs.FilesRead.{IsPlaceOf}

abbrev order : Text → Text → Ordering
order = slice_cmp nat_cmp

first_below : (k : Text) (ks : List Text) → IsStrictlySortedBy order (k ∷ ks) → AllByRecursion (λ y. order k y ≡ Less) ks
unfolding IsStrictlySortedBy
first_below k ks ascending = ascending.0

index_below : (o : Ordering) → ordering_index o ≤ 2
index_below Less = omega arith
index_below Equal = omega arith
index_below Greater = omega arith

rise_by : (path x y : Text) → order x y ≡ Less → (o : Ordering) → order y path ≡ o → ordering_index (order x path) ≤ ordering_index o
rise_by path x y ascends Less h = let first = ap ordering_index (nat_list_cmp_total.trans x y path ascends h) in omega (arith, first)
rise_by path x y ascends Equal h = let first = ap ordering_index (sym (alike_right nat_list_cmp_total y path x h) ∙ ascends) in omega (arith, first)
rise_by path x y ascends Greater h = index_below (order x path)

at_place : (P : Text → Type 0) (ps : List (Bor Text)) (i : ℕ) (d : Bor Text) → AllByRecursion P (plain ps) → i < length ps → P (slice_index_or ps i d).now
at_place P [] i d all fits = absurd (omega (arith, fits))
at_place P (p ∷ ps) zero d all fits = all.0
at_place P (p ∷ ps) (suc i) d all fits = at_place P ps i d all.1 (omega (arith, fits))

rises : (path : Text) (ps : List (Bor Text)) → IsStrictlySortedBy order (plain ps) → IsNonDecreasingBy (λ p. ordering_index (order p.now path)) ps
rises path [] ascending i j d le fits = absurd (omega (arith, fits))
rises path (p ∷ ps) ascending zero zero d le fits = omega arith
rises path (p ∷ ps) ascending zero (suc j) d le fits =
    let later = (slice_index_or ps j d).now in
    rise_by path p.now later (at_place (λ y. order p.now y ≡ Less) ps j d (first_below p.now (plain ps) ascending) (omega (arith, fits))) (order later path) refl
rises path (p ∷ ps) ascending (suc i) zero d le fits = absurd (omega (arith, le))
rises path (p ∷ ps) ascending (suc i) (suc j) d le fits = rises path ps (sorted_tail order p.now (plain ps) ascending) i j d (omega (arith, le)) (omega (arith, fits))

same_text : (x y : Text) → order x y ≡ Equal → x ≡ y
same_text x y is = (bytes_eq-Decides x y).0 (sym (is_eq-slice_cmp x y) ∙ ap is_eq is)

found_at : (path : Text) (ps : List (Bor Text)) (i : ℕ) → i < length ps → HoldsAt (λ p. order p.now path ≡ Equal) ps i → slice_get (plain ps) i ≡ Some path
found_at path [] i fits here = absurd (omega (arith, fits))
found_at path (p ∷ ps) zero fits here = ap Some (same_text p.now path (here p))
found_at path (p ∷ ps) (suc i) fits here = found_at path ps i (omega (arith, fits)) here

no_text : (x y : Text) (o : Ordering) → order x y ≡ o → is_eq o ≡ false → bytes_eq x y ≡ false
no_text x y o is other = sym (is_eq-slice_cmp x y) ∙ ap is_eq is ∙ other

not_among : (path : Text) (ps : List (Bor Text)) (i : ℕ) → AllWithin (λ p. order p.now path ≡ Less) ps 0 i → AllWithin (λ p. order p.now path ≡ Greater) ps i (length ps) → is_among (plain ps) path ≡ false
not_among path [] i below above = refl
not_among path (p ∷ ps) zero below above =
    ap (λ b. b || is_among (plain ps) path) (no_text p.now path Greater (above 0 p (omega arith) (omega arith)) refl)
    ∙ not_among path ps zero (λ k d low high. absurd (omega (arith, high))) (λ k d low high. above (suc k) d (omega arith) (omega (arith, high)))
not_among path (p ∷ ps) (suc i) below above =
    ap (λ b. b || is_among (plain ps) path) (no_text p.now path Less (below 0 p (omega arith) (omega arith)) refl)
    ∙ not_among path ps i (λ k d low high. below (suc k) d (omega arith) (omega (arith, high))) (λ k d low high. above (suc k) d (omega (arith, low)) (omega (arith, high)))

-- by a binary search
pub place_found : (path : Text) (ps : List (Bor Text)) (r : Result ℕ ℕ) → IsSearchInRange r (length ps) → IsBinarySearchResult (λ p. order p.now path) ps r → IsPlaceOf path (plain ps) (result_ok r)
place_found path ps (Ok i) fits found = found_at path ps i fits found
place_found path ps (Err i) fits found = λ ascending. let point = found (rises path ps ascending) in not_among path ps i point.0 point.1
