-- Arguments are a map: what is found after one was set.
use Rattle.std.proofs.Common.{◌≡◌, Bool, true, false, ℕ, List, [], ◌∷◌, ◌++◌, map, Some, cond, refl, ap, sym, ◌∙◌}
use Rattle.std.specs.List.{AllByRecursion, AllZip}
use Rattle.std.specs.List.Sorted.{IsStrictlySortedBy}
use Rattle.std.specs.declared.cmp.Ordering.{Ordering}
use Rattle.std.specs.declared.cmp.Ordering.TheVariants.{Less, Equal, Greater}
use Rattle.std.specs.Ordering.{match_ordering, is_eq}
use Rattle.std.specs.Cmp.Lexicographic.{nat_list_cmp_total, same_text, texts_ties}
use Rattle.std.proofs.lemmas.Cmp.{alike_right, tied_itself}
use Rattle.std.specs.BTreeMap.{insert_entry, is_at}
use Rattle.std.specs.Map.{lookup, keys_of}
use Rattle.fluent_value.specs.Args.{order, all_set, with_argument}
use Rattle.fluent_value.specs.Value.{Value}
use Rattle.fluent_value.proofs.Placed.{turned}

module _ {V : Type 0} (name : List ℕ) (v : V) where
  abbrev after : List (List ℕ × V) → List (List ℕ × V)
  after es = insert_entry order es name v

  itself : (es : List (List ℕ × V)) → lookup (is_at (order name)) ((name, v) ∷ es) ≡ Some v
  itself es = ap (λ o. cond (is_eq o) (Some v) (lookup (is_at (order name)) es)) (tied_itself nat_list_cmp_total name)

  found_by : (e : List ℕ × V) (es : List (List ℕ × V)) (o : Ordering) → order name e.0 ≡ o → lookup (is_at (order name)) (after es) ≡ Some v → lookup (is_at (order name)) (match_ordering o ((name, v) ∷ e ∷ es) ((e.0, v) ∷ es) (e ∷ after es)) ≡ Some v
  found_by e es Less h rest = itself (e ∷ es)
  found_by e es Equal h rest = ap (λ o. cond (is_eq o) (Some v) (lookup (is_at (order name)) es)) h
  found_by e es Greater h rest = ap (λ o. cond (is_eq o) (Some e.1) (lookup (is_at (order name)) (after es))) h ∙ rest

  -- the value that was set last is found
  pub set_is_found : (es : List (List ℕ × V)) → lookup (is_at (order name)) (after es) ≡ Some v
  set_is_found [] = itself []
  set_is_found (e ∷ es) = found_by e es (order name e.0) refl (set_is_found es)

  module _ (other : List ℕ) (apart : is_eq (order other name) ≡ false) where
    skipped : (w : V) (es : List (List ℕ × V)) → lookup (is_at (order other)) ((name, w) ∷ es) ≡ lookup (is_at (order other)) es
    skipped w es = ap (λ b. cond b (Some w) (lookup (is_at (order other)) es)) apart

    passed : (k : List ℕ) (u w : V) (es : List (List ℕ × V)) → order name k ≡ Equal → lookup (is_at (order other)) ((k, u) ∷ es) ≡ lookup (is_at (order other)) ((k, w) ∷ es)
    passed k u w es h =
        let test = ap is_eq (sym (alike_right nat_list_cmp_total name k other h)) ∙ apart in
        ap (λ b. cond b (Some u) (lookup (is_at (order other)) es)) test ∙ sym (ap (λ b. cond b (Some w) (lookup (is_at (order other)) es)) test)

    stays_by : (e : List ℕ × V) (es : List (List ℕ × V)) (o : Ordering) → order name e.0 ≡ o → lookup (is_at (order other)) (after es) ≡ lookup (is_at (order other)) es → lookup (is_at (order other)) (match_ordering o ((name, v) ∷ e ∷ es) ((e.0, v) ∷ es) (e ∷ after es)) ≡ lookup (is_at (order other)) (e ∷ es)
    stays_by e es Less h rest = skipped v (e ∷ es)
    stays_by e es Equal h rest = passed e.0 v e.1 es h
    stays_by e es Greater h rest = ap (λ l. cond (is_eq (order other e.0)) (Some e.1) l) rest

    -- what is found under another name stays
    pub others_stay : (es : List (List ℕ × V)) → lookup (is_at (order other)) (after es) ≡ lookup (is_at (order other)) es
    others_stay [] = skipped v []
    others_stay (e ∷ es) = stays_by e es (order name e.0) refl (others_stay es)

  all_by : (P : List ℕ → Type 0) (e : List ℕ × V) (es : List (List ℕ × V)) (o : Ordering) → AllByRecursion P (keys_of (e ∷ es)) → P name → AllByRecursion P (keys_of (after es)) → AllByRecursion P (keys_of (match_ordering o ((name, v) ∷ e ∷ es) ((e.0, v) ∷ es) (e ∷ after es)))
  all_by P e es Less all here rest = (here, all)
  all_by P e es Equal all here rest = all
  all_by P e es Greater all here rest = (all.0, rest)

  all_keys : (P : List ℕ → Type 0) (es : List (List ℕ × V)) → AllByRecursion P (keys_of es) → P name → AllByRecursion P (keys_of (after es))
  all_keys P [] all here = (here, tt)
  all_keys P (e ∷ es) all here = all_by P e es (order name e.0) all here (all_keys P es all.1 here)

  below_all : (ks : List (List ℕ)) (k : List ℕ) → order name k ≡ Less → AllByRecursion (λ y. order k y ≡ Less) ks → AllByRecursion (λ y. order name y ≡ Less) ks
  below_all [] k h all = tt
  below_all (y ∷ ys) k h all = (nat_list_cmp_total.trans name k y h all.0, below_all ys k h all.1)

  -- names still ascend
  ascend_by : (e : List ℕ × V) (es : List (List ℕ × V)) (o : Ordering) → order name e.0 ≡ o → IsStrictlySortedBy order (e.0 ∷ keys_of es) → IsStrictlySortedBy order (keys_of (after es)) → IsStrictlySortedBy order (keys_of (match_ordering o ((name, v) ∷ e ∷ es) ((e.0, v) ∷ es) (e ∷ after es)))
  unfolding IsStrictlySortedBy
  ascend_by e es Less h ascending rest = ((h, below_all (keys_of es) e.0 h ascending.0), ascending)
  ascend_by e es Equal h ascending rest = ascending
  ascend_by e es Greater h ascending rest = (all_keys (λ y. order e.0 y ≡ Less) es ascending.0 (turned e.0 name Greater h), rest)

  pub still_ascending : (es : List (List ℕ × V)) → IsStrictlySortedBy order (keys_of es) → IsStrictlySortedBy order (keys_of (after es))
  unfolding IsStrictlySortedBy
  still_ascending [] ascending = (tt, tt)
  still_ascending (e ∷ es) ascending = ascend_by e es (order name e.0) refl ascending (still_ascending es ascending.1)

differ_by : (x y : List ℕ) (b : Bool) → is_eq (order x y) ≡ b → (x ≡ y → ⊥) → b ≡ false
differ_by x y true h never = absurd (never (same_text x y (sym (texts_ties x y ∙ h))))
differ_by x y false h never = refl

-- names that differ don't compare as equal
pub differ : (x y : List ℕ) → (x ≡ y → ⊥) → is_eq (order x y) ≡ false
differ x y never = differ_by x y (is_eq (order x y)) refl never

-- one pair more is set last
pub set_last : {S : Type 0} {B : Type 0} (f : B → List ℕ × Value S) (args : List (List ℕ × Value S)) (pairs : List B) (b : B) → all_set args (map f (pairs ++ b ∷ [])) ≡ with_argument (f b).0 (f b).1 (all_set args (map f pairs))
set_last f args [] b = refl
set_last f args (p ∷ ps) b = set_last f (with_argument (f p).0 (f p).1 args) ps b

-- two lists that go together still do with one more of each
pub zip_last : {A B : Type 0} (R : A → B → Type 0) (xs : List A) (ys : List B) (x : A) (y : B) → AllZip R xs ys → R x y → AllZip R (xs ++ x ∷ []) (ys ++ y ∷ [])
zip_last R [] [] x y all here = (here, tt)
zip_last R [] (z ∷ zs) x y all here = absurd all
zip_last R (z ∷ zs) [] x y all here = absurd all
zip_last R (w ∷ ws) (z ∷ zs) x y all here = (all.0, zip_last R ws zs x y all.1 here)
