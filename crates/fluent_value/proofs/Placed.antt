-- Where a name stands among names that ascend.
use Rattle.std.proofs.Common.{◌≡◌, Bool, true, false, ℕ, zero, suc, ◌+◌, ◌<◌, ◌≤◌, List, [], ◌∷◌, ◌++◌, length, take, drop, map, Some, None, Result, Ok, Err, MatchResult, cond, get_or, drop-cons, refl, ap, sym, ◌∙◌, arith}
use Rattle.std.specs.Prelude.{slice_index_or, slice_set, if◌then◌else◌}
use Rattle.std.specs.List.{AllWithin, AllByRecursion, HoldsAt}
use Rattle.std.specs.List.Sorted.{IsStrictlySortedBy, IsNonDecreasingBy, IsBinarySearchResult, IsPartitionPoint}
use Rattle.std.specs.declared.cmp.Ordering.{Ordering}
use Rattle.std.specs.declared.cmp.Ordering.TheVariants.{Less, Equal, Greater}
use Rattle.std.specs.Ordering.{nat_cmp, ordering_index, ordering_reverse, match_ordering, is_eq}
use Rattle.std.specs.Cmp.Lexicographic.{slice_cmp, nat_list_cmp_total}
use Rattle.std.proofs.lemmas.Cmp.{alike_right}
use Rattle.std.proofs.lemmas.Map.Keys.{sorted_tail}
use Rattle.std.proofs.lemmas.Map.Text.{is_eq-slice_cmp}
use Rattle.std.specs.Str.{bytes_eq}
use Rattle.std.specs.BTreeMap.{insert_entry, is_at}
use Rattle.std.specs.Map.{lookup, keys_of}

abbrev order : List ℕ → List ℕ → Ordering
order = slice_cmp nat_cmp

pub turned : (x y : List ℕ) (o : Ordering) → order y x ≡ o → order x y ≡ ordering_reverse o
turned x y o h = nat_list_cmp_total.antisymm x y ∙ ap ordering_reverse h

pub first_below : (k : List ℕ) (ks : List (List ℕ)) → IsStrictlySortedBy order (k ∷ ks) → AllByRecursion (λ y. order k y ≡ Less) ks
unfolding IsStrictlySortedBy
first_below k ks ascending = ascending.0

pub none_ascend : IsStrictlySortedBy order []
unfolding IsStrictlySortedBy
none_ascend = tt

index_below : (o : Ordering) → ordering_index o ≤ 2
index_below Less = omega arith
index_below Equal = omega arith
index_below Greater = omega arith

rise_by : (name x y : List ℕ) → order x y ≡ Less → (o : Ordering) → order y name ≡ o → ordering_index (order x name) ≤ ordering_index o
rise_by name x y ascends Less h = let first = ap ordering_index (nat_list_cmp_total.trans x y name ascends h) in omega (arith, first)
rise_by name x y ascends Equal h = let first = ap ordering_index (sym (alike_right nat_list_cmp_total y name x h) ∙ ascends) in omega (arith, first)
rise_by name x y ascends Greater h = index_below (order x name)

-- of two names that ascend the second is no less, compared with a third
rise : (name x y : List ℕ) → order x y ≡ Less → ordering_index (order x name) ≤ ordering_index (order y name)
rise name x y ascends = rise_by name x y ascends (order y name) refl

module _ {B V : Type 0} (key : B → List ℕ) (val : B → V) where
  abbrev plain : List B → List (List ℕ × V)
  plain es = map (λ b. (key b, val b)) es

  -- one that is put between those below its name and those above
  pub placed : (b : B) (es : List B) (i : ℕ) → AllWithin (λ e. order (key e) (key b) ≡ Less) es 0 i → AllWithin (λ e. order (key e) (key b) ≡ Greater) es i (length es) → i ≤ length es → insert_entry order (plain es) (key b) (val b) ≡ plain (take i es ++ b ∷ drop i es)
  placed b [] zero below above fits = refl
  placed b [] (suc i) below above fits = refl
  placed b (e ∷ es) zero below above fits =
      let here = turned (key b) (key e) Greater (above 0 e (omega arith) (omega arith)) in
      ap (λ o. match_ordering o (plain (b ∷ e ∷ es)) ((key e, val b) ∷ plain es) ((key e, val e) ∷ insert_entry order (plain es) (key b) (val b))) here
  placed b (e ∷ es) (suc i) below above fits =
      let here = turned (key b) (key e) Less (below 0 e (omega arith) (omega arith)) in
      ap (λ o. match_ordering o (plain (b ∷ e ∷ es)) ((key e, val b) ∷ plain es) ((key e, val e) ∷ insert_entry order (plain es) (key b) (val b))) here
      ∙ ap (λ l. (key e, val e) ∷ l) (placed b es i (λ k d low high. below (suc k) d (omega arith) (omega (arith, high))) (λ k d low high. above (suc k) d (omega (arith, low)) (omega (arith, high))) (omega (arith, fits)))

  -- what holds of each name and of another holds of all of them where that one is put
  all_put : (P : List ℕ → Type 0) (b : B) (es : List B) (i : ℕ) → AllByRecursion P (map key es) → P (key b) → AllByRecursion P (map key (take i es ++ b ∷ drop i es))
  all_put P b [] zero all here = (here, tt)
  all_put P b [] (suc i) all here = (here, tt)
  all_put P b (e ∷ es) zero all here = (here, all)
  all_put P b (e ∷ es) (suc i) all here = (all.0, all_put P b es i all.1 here)

  -- what holds at each place holds of all
  all_from : (P : List ℕ → Type 0) (es : List B) → ((k : ℕ) (d : B) → k < length es → P (key (slice_index_or es k d))) → AllByRecursion P (map key es)
  all_from P [] each = tt
  all_from P (e ∷ es) each = (each 0 e (omega arith), all_from P es (λ k d fits. each (suc k) d (omega (arith, fits))))

  -- names still ascend where one is put between those below and those above
  pub still_ascend : (b : B) (es : List B) (i : ℕ) → IsStrictlySortedBy order (map key es) → AllWithin (λ e. order (key e) (key b) ≡ Less) es 0 i → AllWithin (λ e. order (key e) (key b) ≡ Greater) es i (length es) → IsStrictlySortedBy order (map key (take i es ++ b ∷ drop i es))
  unfolding IsStrictlySortedBy
  still_ascend b [] zero ascending below above = (tt, tt)
  still_ascend b [] (suc i) ascending below above = (tt, tt)
  still_ascend b (e ∷ es) zero ascending below above =
      (all_from (λ y. order (key b) y ≡ Less) (e ∷ es) (λ k d fits. turned (key b) (key (slice_index_or (e ∷ es) k d)) Greater (above k d (omega arith) fits)), ascending)
  still_ascend b (e ∷ es) (suc i) ascending below above = (
    all_put (λ y. order (key e) y ≡ Less) b es i ascending.0 (below 0 e (omega arith) (omega arith)),
    still_ascend b es i ascending.1 (λ k d low high. below (suc k) d (omega arith) (omega (arith, high))) (λ k d low high. above (suc k) d (omega (arith, low)) (omega (arith, high))),
  )

  -- names stay where one is replaced by another of the same name
  pub names_stay : (b : B) (es : List B) (i : ℕ) (d : B) → i < length es → key b ≡ key (slice_index_or es i d) → map key (slice_set es i b) ≡ map key es
  names_stay b [] i d fits same = absurd (omega (arith, fits))
  names_stay b (e ∷ es) zero d fits same = ap (λ k. k ∷ map key es) same
  names_stay b (e ∷ es) (suc i) d fits same = ap (λ l. key e ∷ l) (names_stay b es i d (omega (arith, fits)) same)

  -- what holds of each name holds of the one at a place
  at_place : (P : List ℕ → Type 0) (es : List B) (i : ℕ) (d : B) → AllByRecursion P (map key es) → i < length es → P (key (slice_index_or es i d))
  at_place P [] i d all fits = absurd (omega (arith, fits))
  at_place P (e ∷ es) zero d all fits = all.0
  at_place P (e ∷ es) (suc i) d all fits = at_place P es i d all.1 (omega (arith, fits))

  -- a name before that of a place is less than a name that is equal to it
  before : (name : List ℕ) (e : B) (es : List B) (i : ℕ) → IsStrictlySortedBy order (map key (e ∷ es)) → i < length es → ((d : B) → order (key (slice_index_or es i d)) name ≡ Equal) → order name (key e) ≡ Greater
  before name e es i ascending fits here =
      turned name (key e) Less
      (sym (alike_right nat_list_cmp_total (key (slice_index_or es i e)) name (key e) (here e)) ∙ at_place (λ y. order (key e) y ≡ Less) es i e (first_below (key e) (map key es) ascending) fits)

  -- a name that stands there has its value changed
  pub replaced : (name : List ℕ) (b : B) (es : List B) (i : ℕ) → IsStrictlySortedBy order (map key es) → i < length es → ((d : B) → order (key (slice_index_or es i d)) name ≡ Equal) → (d : B) → key b ≡ key (slice_index_or es i d) → insert_entry order (plain es) name (val b) ≡ plain (slice_set es i b)
  replaced name b [] i ascending fits here d same = absurd (omega (arith, fits))
  replaced name b (e ∷ es) zero ascending fits here d same =
      let h = turned name (key e) Equal (here e) in
      ap (λ o. match_ordering o ((name, val b) ∷ plain (e ∷ es)) ((key e, val b) ∷ plain es) ((key e, val e) ∷ insert_entry order (plain es) name (val b))) h
      ∙ ap (λ k. (k, val b) ∷ plain es) (sym same)
  replaced name b (e ∷ es) (suc i) ascending fits here d same =
      let h = before name e es i ascending (omega (arith, fits)) here in
      ap (λ o. match_ordering o ((name, val b) ∷ plain (e ∷ es)) ((key e, val b) ∷ plain es) ((key e, val e) ∷ insert_entry order (plain es) name (val b))) h
      ∙ ap (λ l. (key e, val e) ∷ l) (replaced name b es i (sorted_tail order (key e) (map key es) ascending) (omega (arith, fits)) here d same)

  -- what is found under a name that stands there
  pub found : (name : List ℕ) (es : List B) (i : ℕ) → IsStrictlySortedBy order (map key es) → i < length es → ((d : B) → order (key (slice_index_or es i d)) name ≡ Equal) → (d : B) → lookup (is_at (order name)) (plain es) ≡ Some (val (slice_index_or es i d))
  found name [] i ascending fits here d = absurd (omega (arith, fits))
  found name (e ∷ es) zero ascending fits here d =
      ap (λ o. cond (is_eq o) (Some (val e)) (lookup (is_at (order name)) (plain es))) (turned name (key e) Equal (here e))
  found name (e ∷ es) (suc i) ascending fits here d =
      ap (λ o. cond (is_eq o) (Some (val e)) (lookup (is_at (order name)) (plain es))) (before name e es i ascending (omega (arith, fits)) here)
      ∙ found name es i (sorted_tail order (key e) (map key es) ascending) (omega (arith, fits)) here d

  -- what is found from a place on, by what is there
  pub found_from : (name : List ℕ) (es : List B) (i : ℕ) (e : B) → i < length es → e ≡ get_or es i e → lookup (is_at (order name)) (plain (drop i es)) ≡ cond (bytes_eq name (key e)) (Some (val e)) (lookup (is_at (order name)) (plain (drop (i + 1) es)))
  found_from name es i e fits here =
      let behind = drop (i + 1) es in
      let more : suc i ≡ i + 1 = omega arith in
      ap (λ l. lookup (is_at (order name)) (plain l)) (drop-cons es i e fits ∙ ap (λ n. get_or es i e ∷ drop n es) more ∙ ap (λ it. it ∷ behind) (sym here))
      ∙ ap (λ b. cond b (Some (val e)) (lookup (is_at (order name)) (plain behind))) (is_eq-slice_cmp name (key e))

  -- nothing is found where the name has a place but doesn't stand
  pub missing : (name : List ℕ) (es : List B) (i : ℕ) → AllWithin (λ b. order (key b) name ≡ Less) es 0 i → AllWithin (λ b. order (key b) name ≡ Greater) es i (length es) → lookup (is_at (order name)) (plain es) ≡ None
  missing name [] i below above = refl
  missing name (e ∷ es) zero below above =
      ap (λ o. cond (is_eq o) (Some (val e)) (lookup (is_at (order name)) (plain es))) (turned name (key e) Greater (above 0 e (omega arith) (omega arith)))
      ∙ missing name es zero (λ k d low high. absurd (omega (arith, high))) (λ k d low high. above (suc k) d (omega arith) (omega (arith, high)))
  missing name (e ∷ es) (suc i) below above =
      ap (λ o. cond (is_eq o) (Some (val e)) (lookup (is_at (order name)) (plain es))) (turned name (key e) Less (below 0 e (omega arith) (omega arith)))
      ∙ missing name es i (λ k d low high. below (suc k) d (omega arith) (omega (arith, high))) (λ k d low high. above (suc k) d (omega (arith, low)) (omega (arith, high)))

  -- compared with a name, those that ascend go from less to greater
  pub rises : (name : List ℕ) (es : List B) → IsStrictlySortedBy order (map key es) → IsNonDecreasingBy (λ b. ordering_index (order (key b) name)) es
  rises name [] ascending i j d le fits = absurd (omega (arith, fits))
  rises name (e ∷ es) ascending zero zero d le fits = omega arith
  rises name (e ∷ es) ascending zero (suc j) d le fits =
      rise name (key e) (key (slice_index_or es j d)) (at_place (λ y. order (key e) y ≡ Less) es j d (first_below (key e) (map key es) ascending) (omega (arith, fits)))
  rises name (e ∷ es) ascending (suc i) zero d le fits = absurd (omega (arith, le))
  rises name (e ∷ es) ascending (suc i) (suc j) d le fits = rises name es (sorted_tail order (key e) (map key es) ascending) i j d (omega (arith, le)) (omega (arith, fits))

-- the names of plain arguments are the names
pub names_shown : {B V : Type 0} (key : B → List ℕ) (val : B → V) (es : List B) → keys_of (map (λ b. (key b, val b)) es) ≡ map key es
names_shown key val [] = refl
names_shown key val (e ∷ es) = ap (λ l. key e ∷ l) (names_shown key val es)

-- what a binary search says where the answers rise
pub settled : {B : Type 0} (compare : B → Ordering) (es : List B) (r : Result ℕ ℕ) → IsNonDecreasingBy (λ b. ordering_index (compare b)) es → IsBinarySearchResult compare es r → MatchResult r (HoldsAt (λ b. compare b ≡ Equal) es) (IsPartitionPoint (λ b. compare b ≡ Less) (λ b. compare b ≡ Greater) es)
settled compare es (Ok i) rising found = found
settled compare es (Err i) rising found = found rising

-- what holds of both holds of the one that is chosen
pub either : {A : Type 0} (P : A → Type 0) (b : Bool) (x y : A) → P x → P y → P (if b then x else y)
either P true x y p q = p
either P false x y p q = q
