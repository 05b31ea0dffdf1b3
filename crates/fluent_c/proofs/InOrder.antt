-- Arguments that are set in the order of their names are those that are set in any order in which those of one name keep theirs.
use Rattle.std.proofs.Common.{◌≡◌, Bool, true, false, not, ◌&&◌, ℕ, List, [], ◌∷◌, map, cond, refl, ap, sym, ◌∙◌}
use Rattle.std.specs.Prelude.{filter}
use Rattle.std.specs.List.Sorted.{IsStableByKey}
use Rattle.std.specs.declared.cmp.Ordering.{Ordering}
use Rattle.std.specs.declared.cmp.Ordering.TheVariants.{Less, Equal, Greater}
use Rattle.std.specs.Ordering.{match_ordering, is_eq, is_lt}
use Rattle.std.specs.Cmp.Lexicographic.{nat_list_cmp_total, same_text, texts_ties}
use Rattle.std.proofs.lemmas.Cmp.{alike_right, tied_itself}
use Rattle.fluent_value.proofs.Placed.{turned}
use Rattle.fluent_value.specs.Args.{all_set, order, with_argument}
use Rattle.fluent_value.specs.Value.{Value}

-- ---- which names are the same

-- whether two names are, as a sort has it
abbrev same : List ℕ → List ℕ → Bool
same x y = not (is_lt (order x y)) && not (is_lt (order y x))

same_both : (x y : List ℕ) (a b : Ordering) → order x y ≡ a → order y x ≡ b → same x y ≡ (not (is_lt a) && not (is_lt b))
same_both x y a b h k = ap (λ o. not (is_lt o) && not (is_lt (order y x))) h ∙ ap (λ o. not (is_lt a) && not (is_lt o)) k

same_itself : (x : List ℕ) → same x x ≡ true
same_itself x = same_both x x Equal Equal (tied_itself nat_list_cmp_total x) (tied_itself nat_list_cmp_total x)

are_same_by : (x y : List ℕ) (o : Ordering) → order x y ≡ o → same x y ≡ true → x ≡ y
are_same_by x y Less h e = absurd (let other = same_both x y Less Greater h (turned y x Less h) in cc)
are_same_by x y Equal h e = same_text x y (sym (texts_ties x y ∙ ap is_eq h))
are_same_by x y Greater h e = absurd (let other = same_both x y Greater Less h (turned y x Greater h) in cc)

are_same : (x y : List ℕ) → same x y ≡ true → x ≡ y
are_same x y e = are_same_by x y (order x y) refl e

-- ---- arguments of two names may be set in any order

module _ {S : Type 0} where
  abbrev put : List ℕ × Value S → List (List ℕ × Value S) → List (List ℕ × Value S)
  put p es = with_argument p.0 p.1 es

  put_by : (p e : List ℕ × Value S) (es : List (List ℕ × Value S)) (o : Ordering) → order p.0 e.0 ≡ o → put p (e ∷ es) ≡ match_ordering o (p ∷ e ∷ es) ((e.0, p.1) ∷ es) (e ∷ put p es)
  put_by p e es o h = ap (λ r. match_ordering r (p ∷ e ∷ es) ((e.0, p.1) ∷ es) (e ∷ put p es)) h

  module _ (p q : List ℕ × Value S) (below : order p.0 q.0 ≡ Less) where
    above : order q.0 p.0 ≡ Greater
    above = turned q.0 p.0 Less below

    first : (es : List (List ℕ × Value S)) → put p (q ∷ es) ≡ p ∷ q ∷ es
    first es = put_by p q es Less below

    second : (es : List (List ℕ × Value S)) → put q (p ∷ es) ≡ p ∷ put q es
    second es = put_by q p es Greater above

    either_by : (e : List ℕ × Value S) (es : List (List ℕ × Value S)) → put p (put q es) ≡ put q (put p es) → (a b : Ordering) → order p.0 e.0 ≡ a → order q.0 e.0 ≡ b → put p (put q (e ∷ es)) ≡ put q (put p (e ∷ es))
    either_by e es rest Less Less h k =
        ap (put p) (put_by q e es Less k) ∙ first (e ∷ es)
        ∙ sym (ap (put q) (put_by p e es Less h) ∙ second (e ∷ es) ∙ ap (λ l. p ∷ l) (put_by q e es Less k))
    either_by e es rest Less Equal h k =
        ap (put p) (put_by q e es Equal k) ∙ put_by p (e.0, q.1) es Less h
        ∙ sym (ap (put q) (put_by p e es Less h) ∙ second (e ∷ es) ∙ ap (λ l. p ∷ l) (put_by q e es Equal k))
    either_by e es rest Less Greater h k =
        ap (put p) (put_by q e es Greater k) ∙ put_by p e (put q es) Less h
        ∙ sym (ap (put q) (put_by p e es Less h) ∙ second (e ∷ es) ∙ ap (λ l. p ∷ l) (put_by q e es Greater k))
    either_by e es rest Equal Less h k = absurd (let less = nat_list_cmp_total.trans p.0 q.0 e.0 below k in cc)
    either_by e es rest Equal Equal h k = absurd (let tied = alike_right nat_list_cmp_total q.0 e.0 p.0 k in cc)
    either_by e es rest Equal Greater h k =
        ap (put p) (put_by q e es Greater k) ∙ put_by p e (put q es) Equal h
        ∙ sym (ap (put q) (put_by p e es Equal h) ∙ put_by q (e.0, p.1) es Greater k)
    either_by e es rest Greater Less h k = absurd (let less = nat_list_cmp_total.trans p.0 q.0 e.0 below k in cc)
    either_by e es rest Greater Equal h k = absurd (let tied = alike_right nat_list_cmp_total q.0 e.0 p.0 k in cc)
    either_by e es rest Greater Greater h k =
        ap (put p) (put_by q e es Greater k) ∙ put_by p e (put q es) Greater h ∙ ap (λ l. e ∷ l) rest
        ∙ sym (ap (put q) (put_by p e es Greater h) ∙ put_by q e (put p es) Greater k)

    either_first : (es : List (List ℕ × Value S)) → put p (put q es) ≡ put q (put p es)
    either_first [] = first [] ∙ sym (second [])
    either_first (e ∷ es) = either_by e es (either_first es) (order p.0 e.0) (order q.0 e.0) refl refl

  apart_by : (p q : List ℕ × Value S) (o : Ordering) → order p.0 q.0 ≡ o → same p.0 q.0 ≡ false → (es : List (List ℕ × Value S)) → put p (put q es) ≡ put q (put p es)
  apart_by p q Less h e es = either_first p q h es
  apart_by p q Equal h e es = absurd (let other = same_both p.0 q.0 Equal Equal h (turned q.0 p.0 Equal h) in cc)
  apart_by p q Greater h e es = sym (either_first q p (turned q.0 p.0 Greater h) es)

  apart : (p q : List ℕ × Value S) → same p.0 q.0 ≡ false → (es : List (List ℕ × Value S)) → put p (put q es) ≡ put q (put p es)
  apart p q e es = apart_by p q (order p.0 q.0) refl e es

-- ---- the first of a name may be set first

module _ {X S : Type 0} (f : X → List ℕ × Value S) where
  abbrev alike : X → X → Bool
  alike x y = same (f x).0 (f y).0

  abbrev of_name : X → List X → List X
  of_name x xs = filter (alike x) xs

  -- what sets the same as these if y is set before
  record Pulled (y : X) (xs : List X) : Type 0 where
    rest : List X
    sets : (args : List (List ℕ × Value S)) → all_set args (map f xs) ≡ all_set (put (f y) args) (map f rest)
    names : (z : X) → of_name z xs ≡ of_name z (y ∷ rest)

  never_both : (x y z : X) → alike y x ≡ false → alike z x ≡ true → alike z y ≡ true → ⊥
  never_both x y z e h k =
      let here : same (f z).0 (f x).0 ≡ false = ap (λ n. same n (f x).0) (are_same (f z).0 (f y).0 k) ∙ e in
      cc

  passed_by : (x y z : X) (rest : List X) → alike y x ≡ false → (a b : Bool) → alike z x ≡ a → alike z y ≡ b →
      cond a (x ∷ cond b (y ∷ of_name z rest) (of_name z rest)) (cond b (y ∷ of_name z rest) (of_name z rest))
      ≡ cond b (y ∷ cond a (x ∷ of_name z rest) (of_name z rest)) (cond a (x ∷ of_name z rest) (of_name z rest))
  passed_by x y z rest e true true h k = absurd (never_both x y z e h k)
  passed_by x y z rest e true false h k = refl
  passed_by x y z rest e false true h k = refl
  passed_by x y z rest e false false h k = refl

  head_is : (x y : X) (xs r : List X) → x ∷ xs ≡ y ∷ r → x ≡ y
  head_is x y xs r e = cc

  tail_is : (x y : X) (xs r : List X) → x ∷ xs ≡ y ∷ r → xs ≡ r
  tail_is x y xs r e = cc

  pulled : (y : X) (xs r : List X) → of_name y xs ≡ y ∷ r → Pulled y xs
  pulled y [] r e = absurd cc
  pulled y (x ∷ xs) r e = by (alike y x) refl e (pulled y xs r)
    where
      by : (b : Bool) → alike y x ≡ b → cond b (x ∷ of_name y xs) (of_name y xs) ≡ y ∷ r → (of_name y xs ≡ y ∷ r → Pulled y xs) → Pulled y (x ∷ xs)
      by true h here later =
          let is = head_is x y (of_name y xs) r here in
          record { rest = xs; sets = λ args. ap (λ w. all_set (put (f w) args) (map f xs)) is; names = λ z. ap (λ w. of_name z (w ∷ xs)) is }
      by false h here later =
          let p = later here in
          record {
            rest = x ∷ p.rest;
            sets = λ args. p.sets (put (f x) args) ∙ ap (λ es. all_set es (map f p.rest)) (apart (f y) (f x) h args);
            names = λ z. ap (λ l. cond (alike z x) (x ∷ l) l) (p.names z) ∙ passed_by x y z p.rest h (alike z x) (alike z y) refl refl;
          }

  left_by : (x y : X) (ys zs : List X) (b : Bool) → cond b (y ∷ of_name x ys) (of_name x ys) ≡ cond b (y ∷ of_name x zs) (of_name x zs) → of_name x ys ≡ of_name x zs
  left_by x y ys zs true e = tail_is y y (of_name x ys) (of_name x zs) e
  left_by x y ys zs false e = e

  -- arguments of which those of each name come in the same order
  pub sets_same : (ys xs : List X) → ((x : X) → of_name x ys ≡ of_name x xs) → (args : List (List ℕ × Value S)) → all_set args (map f ys) ≡ all_set args (map f xs)
  sets_same [] [] stable args = refl
  sets_same [] (x ∷ xs) stable args = absurd (let here = stable x ∙ ap (λ b. cond b (x ∷ of_name x xs) (of_name x xs)) (same_itself (f x).0) in cc)
  sets_same (y ∷ ys) xs stable args =
      let here : of_name y xs ≡ y ∷ of_name y ys = sym (stable y) ∙ ap (λ b. cond b (y ∷ of_name y ys) (of_name y ys)) (same_itself (f y).0) in
      let p = pulled y xs (of_name y ys) here in
      sets_same ys p.rest (λ x. left_by x y ys p.rest (alike x y) (stable x ∙ p.names x)) (put (f y) args) ∙ sym (p.sets args)

  -- those that a stable sort by their names gives
  pub sets_sorted : (xs ys : List X) → IsStableByKey (λ x. (f x).0) order xs ys → (args : List (List ℕ × Value S)) → all_set args (map f ys) ≡ all_set args (map f xs)
  sets_sorted xs ys stable args = sets_same ys xs stable args
