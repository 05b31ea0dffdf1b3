-- Rounds of a search: each adds what the names that are known refer to.
use Rattle.std.proofs.Common.{◌≡◌, ◌∙◌, ℕ, zero, suc, ◌+◌, ◌≤◌, ◌<◌, ◌⊎◌, inl, inr, Bool, true, false, if◌then◌else◌, List, [], ◌∷◌, ◌++◌, length, refl, ap, sym, append_assoc, append-nil, arith}
use Rattle.std.specs.List.{flat_map}
use Rattle.std.proofs.Math.Nat.{eq-or-lt_of_le}
use Rattle.std.proofs.lemmas.List.Concat.{flat_map-append}
use Rattle.fluent_grammar.specs.Words.{Text, is_among}
use Rattle.lint_findings.specs.Comparison.{union}
use Rattle.lint_nodes.proofs.Unions.{AreAmong, Begins, begins_itself, begin_each_other, union-append, union_begins, are_in_union, among_union, adds_nothing, has_all, added_after, among_first, among_second, among_cons, among_here}

module _ (refers : Text → List Text) where
  -- what these names refer to
  abbrev pub referred : List Text → List Text
  referred xs = flat_map refers xs

  -- what is known after a round
  abbrev pub round : List Text → List Text
  round xs = union xs (referred xs)

  abbrev pub rounds : ℕ → List Text → List Text
  rounds zero xs = xs
  rounds (suc n) xs = rounds n (round xs)

  rounds-round : (n : ℕ) (xs : List Text) → rounds n (round xs) ≡ round (rounds n xs)
  rounds-round zero xs = refl
  rounds-round (suc n) xs = rounds-round n (round xs)

  pub rounds_begin : (n : ℕ) (xs : List Text) → Begins xs (rounds n xs)
  rounds_begin zero xs = begins_itself xs
  rounds_begin (suc n) xs =
      let first = union_begins xs (referred xs) in
      let rest = rounds_begin n (round xs) in
      (first.0 ++ rest.0, rest.1 ∙ ap (λ ys. ys ++ rest.0) first.1 ∙ append_assoc xs first.0 rest.0)

  -- more rounds add nothing once a round did
  pub done_stays : (n : ℕ) (xs : List Text) → round xs ≡ xs → rounds n xs ≡ xs
  done_stays zero xs e = refl
  done_stays (suc n) xs e = ap (rounds n) e ∙ done_stays n xs e

  -- a list on the way from another to what is known after its round
  abbrev Between : List Text → List Text → Type 0
  Between xs ys = Begins xs ys × Begins ys (round xs)

  round_begins : (xs ys : List Text) → Between xs ys → Begins (round xs) (round ys)
  round_begins xs ys h =
      let c = h.0.0 in
      let d = h.1.0 in
      let whole : round xs ≡ xs ++ (c ++ d) = h.1.1 ∙ ap (λ zs. zs ++ d) h.0.1 ∙ append_assoc xs c d in
      let again : union ys (referred xs) ≡ round xs = ap (λ zs. union zs (referred xs)) h.0.1 ∙ added_after (referred xs) xs c d whole ∙ sym whole in
      let more = union_begins (round xs) (referred c) in
      (more.0, ap (λ zs. union ys (referred zs)) h.0.1 ∙ ap (union ys) (flat_map-append refers xs c) ∙ union-append ys (referred xs) (referred c) ∙ ap (λ zs. union zs (referred c)) again ∙ more.1)

  round_between : (xs ys : List Text) → Between xs ys → Between (round xs) (round ys)
  round_between xs ys h = (round_begins xs ys h, round_begins ys (round xs) (h.1, round_begins xs ys h))

  rounds_between : (n : ℕ) (xs ys : List Text) → Between xs ys → Begins (rounds n xs) (rounds n ys) × Begins (rounds n ys) (rounds n (round xs))
  rounds_between zero xs ys h = h
  rounds_between (suc n) xs ys h = rounds_between n (round xs) (round ys) (round_between xs ys h)

  -- Some of a round may be done in advance.
  in_advance : (n : ℕ) (xs ys : List Text) → round (rounds n xs) ≡ rounds n xs → Between xs ys → rounds n ys ≡ rounds n xs
  in_advance n xs ys e h =
      let both = rounds_between n xs ys h in
      let after : rounds n (round xs) ≡ rounds n xs = rounds-round n xs ∙ e in
      sym (begin_each_other (rounds n xs) (rounds n ys) both.0 (both.1.0, sym after ∙ both.1.1))

  -- ---- one name at a time

  -- all that the names of the first list refer to is in the second
  abbrev pub Follows : List Text → List Text → Type 0
  Follows done known = union known (referred done) ≡ known

  middle : (done todo known : List Text) (x : Text) → known ≡ done ++ (x ∷ todo) → Follows done known → Between known (union known (refers x))
  middle done todo known x is followed =
      let new = union known (refers x) in
      let rest = union_begins new (referred todo) in
      let split : referred known ≡ referred done ++ (refers x ++ referred todo) = ap referred is ∙ flat_map-append refers done (x ∷ todo) in
      let same : round known ≡ union new (referred todo) =
      ap (union known) split ∙ union-append known (referred done) (refers x ++ referred todo) ∙ ap (λ zs. union zs (refers x ++ referred todo)) followed ∙ union-append known (refers x) (referred todo) in
      (union_begins known (refers x), (rest.0, same ∙ rest.1))

  -- What the next name refers to may be added at once.
  pub one_more : (n : ℕ) (done todo known : List Text) (x : Text) → known ≡ done ++ (x ∷ todo) → Follows done known → round (rounds n known) ≡ rounds n known →
      rounds n (union known (refers x)) ≡ rounds n known
  one_more n done todo known x is followed e = in_advance n known (union known (refers x)) e (middle done todo known x is followed)

  pub one_followed : (done known : List Text) (x : Text) → Follows done known → Follows (done ++ x ∷ []) (union known (refers x))
  one_followed done known x followed =
      let new = union known (refers x) in
      let first : union new (referred done) ≡ new = adds_nothing new (referred done) (λ y h. among_union y known (refers x) (has_all known (referred done) followed y h)) in
      let second : union new (refers x) ≡ new = adds_nothing new (refers x) (are_in_union known (refers x)) in
      ap (union new) (flat_map-append refers done (x ∷ [])) ∙ union-append new (referred done) (refers x ++ []) ∙ ap (λ zs. union zs (refers x ++ [])) first
      ∙ ap (union new) (append-nil (refers x)) ∙ second

  -- ---- how many rounds are enough

  -- how many of some names aren't among others
  abbrev left : List Text → List Text → ℕ
  left p [] = 0
  left p (k ∷ ks) = (if is_among k p then 0 else 1) + left p ks

  left_at_most : (p ks : List Text) → left p ks ≤ length ks
  left_at_most p [] = omega arith
  left_at_most p (k ∷ ks) = by (is_among k p) (left_at_most p ks)
    where
      by : (b : Bool) → left p ks ≤ length ks → (if b then 0 else 1) + left p ks ≤ suc (length ks)
      by true h = omega arith
      by false h = omega arith

  fewer : (p q ks : List Text) → AreAmong p q → left q ks ≤ left p ks
  fewer p q [] h = omega arith
  fewer p q (k ∷ ks) h = by (is_among k p) refl (is_among k q) refl (fewer p q ks h)
    where
      by : (b : Bool) → is_among k p ≡ b → (d : Bool) → is_among k q ≡ d → left q ks ≤ left p ks → (if d then 0 else 1) + left q ks ≤ (if b then 0 else 1) + left p ks
      by true e true f i = omega arith
      by true e false f i = absurd (let there = h k e in cc)
      by false e true f i = omega arith
      by false e false f i = omega arith

  none_new : (p q ks : List Text) → AreAmong p q → left p ks ≤ left q ks → (x : Text) → is_among x ks ≡ true → is_among x q ≡ true → is_among x p ≡ true
  none_new p q [] h le x in_keys new = absurd cc
  none_new p q (k ∷ ks) h le x in_keys new =
      among_cons k x ks in_keys (is_among x p ≡ true) (λ same. ap (λ z. is_among z p) (sym same) ∙ here (is_among k p) (is_among k q) le (ap (λ z. is_among z q) same ∙ new))
      (λ later. none_new p q ks h (rest (is_among k p) refl (is_among k q) refl le) x later new)
    where
      here : (b d : Bool) → (if b then 0 else 1) + left p ks ≤ (if d then 0 else 1) + left q ks → d ≡ true → b ≡ true
      here true d le i = refl
      here false false le i = absurd cc
      here false true le i = absurd (let less = fewer p q ks h in omega arith)

      rest : (b : Bool) → is_among k p ≡ b → (d : Bool) → is_among k q ≡ d → (if b then 0 else 1) + left p ks ≤ (if d then 0 else 1) + left q ks → left p ks ≤ left q ks
      rest true e true f le = omega arith
      rest true e false f le = absurd (let there = h k e in cc)
      rest false e true f le = omega arith
      rest false e false f le = omega arith

  -- only these names refer to any
  module _ (keys : List Text) (alone : (x : Text) → is_among x keys ≡ false → refers x ≡ []) where
    refers_known : (p k : List Text) (x : Text) → AreAmong (referred p) k → is_among x p ≡ true → AreAmong (refers x) k
    refers_known [] k x h there = absurd cc
    refers_known (y ∷ p) k x h there =
        among_cons y x p there (AreAmong (refers x) k) (λ same z e. h z (among_first z (refers y) (referred p) (ap (λ w. is_among z (refers w)) same ∙ e)))
        (λ later. refers_known p k x (λ z e. h z (among_second z (refers y) (referred p) e)) later)

    nothing_new : (p k : List Text) → Follows p k → ((x : Text) → is_among x keys ≡ true → is_among x k ≡ true → is_among x p ≡ true) → (q : List Text) → AreAmong q k → union k (referred q) ≡ k
    nothing_new p k followed old [] h = refl
    nothing_new p k followed old (x ∷ q) h =
        union-append k (refers x) (referred q) ∙ ap (λ zs. union zs (referred q)) (one (is_among x keys) refl) ∙ nothing_new p k followed old q (λ y e. h y (among_second y (x ∷ []) q e))
      where
        one : (b : Bool) → is_among x keys ≡ b → union k (refers x) ≡ k
        one true e = adds_nothing k (refers x) (refers_known p k x (has_all k (referred p) followed) (old x e (h x (among_here x q))))
        one false e = ap (union k) (alone x e)

    -- a round adds nothing if all of these names that are known were followed
    round_done : (p k : List Text) → AreAmong p k → Follows p k → left p keys ≤ left k keys → round k ≡ k
    round_done p k h followed le = nothing_new p k followed (λ x in_keys new. none_new p k keys h le x in_keys new) k (λ y e. e)

    enough_from : (n : ℕ) (p k : List Text) → AreAmong p k → Follows p k → left p keys ≤ n → round (rounds n k) ≡ rounds n k
    enough_from zero p k h followed le = round_done p k h followed (omega arith)
    enough_from (suc n) p k h followed le =
        let fewer_left : left k keys ≤ left p keys = fewer p k keys h in
        by (eq-or-lt_of_le (omega arith)) (λ less. enough_from n k (round k) (λ y. among_union y k (referred k)) (adds_nothing (round k) (referred k) (are_in_union k (referred k))) less)
      where
        by : (left k keys ≡ suc n) ⊎ (left k keys < suc n) → (left k keys ≤ n → round (rounds n (round k)) ≡ rounds n (round k)) → round (rounds n (round k)) ≡ rounds n (round k)
        by (inl same) later =
            let done : round k ≡ k = round_done p k h followed (omega arith) in
            let stays : rounds n (round k) ≡ k = ap (rounds n) done ∙ done_stays n k done in
            ap round stays ∙ done ∙ sym stays
        by (inr less) later = later (omega arith)

    -- As many rounds as there are such names are enough.
    pub enough : (k : List Text) → round (rounds (length keys) k) ≡ rounds (length keys) k
    enough k = enough_from (length keys) [] k (λ y e. absurd cc) refl (left_at_most [] keys)
