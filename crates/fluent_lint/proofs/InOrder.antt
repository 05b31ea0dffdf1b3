-- A stable sort puts items in their order.
use Rattle.std.proofs.Common.{◌≡◌, ◌∙◌, ℕ, zero, suc, ◌<◌, ◌≤◌, Bool, true, false, cond, if◌then◌else◌, List, [], ◌∷◌, length, get_or, map, filter, nat_cmp, is_lt, refl, sym, ap, arith, inl, inr, suc-le-suc, zero-le}
use Rattle.std.specs.Prelude.{nat_lt}
use Rattle.std.proofs.lemmas.Bool.{cond-true, cond-false, cases_Bool}
use Rattle.std.proofs.lemmas.Bool.Decides.{nat_tests}
use Rattle.std.specs.List.Sorted.{ties, IsNonDecreasingBy, IsStableByKey}
use Rattle.fluent_lint.specs.InOrder.{put, in_order}

below : (m n : ℕ) → nat_lt m n ≡ true → m < n
below m n h = grind (arith, nat_tests)

not_below : (m n : ℕ) → nat_lt m n ≡ false → n ≤ m
not_below m n h = grind (arith, nat_tests)

ties_at : (m n : ℕ) → (ties (λ x y. is_lt (nat_cmp x y)) m n ≡ true → m ≡ n) × (m ≡ n → ties (λ x y. is_lt (nat_cmp x y)) m n ≡ true)
ties_at m n = (λ h. grind (arith, nat_tests), λ h. grind (arith, nat_tests))

module _ {X : Type 0} (number : X → ℕ) where
  put-past : (x y : X) (ys : List X) → nat_lt (number y) (number x) ≡ true → put number x (y ∷ ys) ≡ y ∷ put number x ys
  put-past x y ys h = cond-true _ _ _ h

  put-stays : (x y : X) (ys : List X) → nat_lt (number y) (number x) ≡ false → put number x (y ∷ ys) ≡ x ∷ y ∷ ys
  put-stays x y ys h = cond-false _ _ _ h

  abbrev same_number : X → X → Bool
  same_number = ties (λ x y. is_lt (nat_cmp (number x) (number y)))

  same_number-true : (x y : X) → same_number x y ≡ true → number x ≡ number y
  same_number-true x y = (ties_at (number x) (number y)).0

  same_number_from : (x y : X) → number x ≡ number y → same_number x y ≡ true
  same_number_from x y = (ties_at (number x) (number y)).1

  filter-kept : (p : X → Bool) (y : X) (ys : List X) → p y ≡ true → filter p (y ∷ ys) ≡ y ∷ filter p ys
  filter-kept p y ys h = cond-true _ _ _ h

  filter-dropped : (p : X → Bool) (y : X) (ys : List X) → p y ≡ false → filter p (y ∷ ys) ≡ filter p ys
  filter-dropped p y ys h = cond-false _ _ _ h

  -- those of one number stay in their order
  filter-put : (x c : X) (ds : List X) → filter (same_number x) (put number c ds) ≡ filter (same_number x) (c ∷ ds)
  filter-put x c [] = refl
  filter-put x c (d ∷ ds) =
      let p = same_number x in
      elim (cases_Bool (nat_lt (number d) (number c))) [
        | inr stays ↦ ap (filter p) (put-stays c d ds stays)
        | inl past ↦
            let less = below (number d) (number c) past in
            ap (filter p) (put-past c d ds past)
            ∙ elim (cases_Bool (p d)) [
              | inr without ↦
                  filter-dropped p d (put number c ds) without ∙ filter-put x c ds
                  ∙ ap (λ l. cond (p c) (c ∷ l) l) (sym (filter-dropped p d ds without))
              | inl with ↦
                  elim (cases_Bool (p c)) [
                    | inl both ↦ absurd (omega (arith, same_number-true x c both, same_number-true x d with))
                    | inr only ↦
                        filter-kept p d (put number c ds) with ∙ ap (λ l. d ∷ l) (filter-put x c ds ∙ filter-dropped p c ds only)
                        ∙ sym (filter-dropped p c (d ∷ ds) only ∙ filter-kept p d ds with)
                  ]
            ]
      ]

  filter-in_order : (x : X) (cs : List X) → filter (same_number x) (in_order number cs) ≡ filter (same_number x) cs
  filter-in_order x [] = refl
  filter-in_order x (c ∷ cs) =
      filter-put x c (in_order number cs) ∙ ap (λ l. cond (same_number x c) (c ∷ l) l) (filter-in_order x cs)

  -- ---- lists that rise

  abbrev AreAtLeast : ℕ → List X → Type 0
  AreAtLeast n [] = Unit {0}
  AreAtLeast n (y ∷ ys) = (n ≤ number y) × AreAtLeast n ys

  abbrev Rises : List X → Type 0
  Rises [] = Unit {0}
  Rises (y ∷ ys) = AreAtLeast (number y) ys × Rises ys

  AreAtLeast-le : (n m : ℕ) (ys : List X) → n ≤ m → AreAtLeast m ys → AreAtLeast n ys
  AreAtLeast-le n m [] le h = tt
  AreAtLeast-le n m (y ∷ ys) le h = let first = h.0 in (omega arith, AreAtLeast-le n m ys le h.1)

  AreAtLeast-at : (n : ℕ) (d : X) (ys : List X) → ((j : ℕ) → j < length ys → n ≤ number (get_or ys j d)) → AreAtLeast n ys
  AreAtLeast-at n d [] h = tt
  AreAtLeast-at n d (y ∷ ys) h = (h zero (suc-le-suc zero-le), AreAtLeast-at n d ys (λ j lt. h (suc j) (suc-le-suc lt)))

  Rises-from_sort : (ys : List X) → IsNonDecreasingBy number ys → Rises ys
  Rises-from_sort [] h = tt
  Rises-from_sort (y ∷ ys) h = (
    AreAtLeast-at (number y) y ys (λ j lt. h zero (suc j) y zero-le (suc-le-suc lt)),
    Rises-from_sort ys (λ i j d le lt. h (suc i) (suc j) d (suc-le-suc le) (suc-le-suc lt)),
  )

  AreAtLeast-put : (n : ℕ) (x : X) (ys : List X) → n ≤ number x → AreAtLeast n ys → AreAtLeast n (put number x ys)
  AreAtLeast-put n x [] le h = (le, tt)
  AreAtLeast-put n x (y ∷ ys) le h =
      elim (nat_lt (number y) (number x)) as (λ b. AreAtLeast n (if b then y ∷ put number x ys else x ∷ y ∷ ys)) [
        | true ↦ (h.0, AreAtLeast-put n x ys le h.1)
        | false ↦ (le, h)
      ]

  Rises-put : (x : X) (ys : List X) → Rises ys → Rises (put number x ys)
  Rises-put x [] h = (tt, tt)
  Rises-put x (y ∷ ys) h =
      elim (cases_Bool (nat_lt (number y) (number x))) [
        | inl past ↦
            let less = below (number y) (number x) past in
            rw (put-past x y ys past) (AreAtLeast-put (number y) x ys (omega arith) h.0, Rises-put x ys h.1)
        | inr stays ↦
            let le = not_below (number y) (number x) stays in
            rw (put-stays x y ys stays) ((le, AreAtLeast-le (number x) (number y) ys le h.0), h)
      ]

  Rises-in_order : (xs : List X) → Rises (in_order number xs)
  Rises-in_order [] = tt
  Rises-in_order (x ∷ xs) = Rises-put x (in_order number xs) (Rises-in_order xs)

  -- ---- lists that rise are the same if those of each number are

  AreAtLeast-found : (n : ℕ) (x : X) (ys : List X) (w : X) (ws : List X) → AreAtLeast n ys → filter (same_number x) ys ≡ w ∷ ws → n ≤ number x
  AreAtLeast-found n x [] w ws h e = cc
  AreAtLeast-found n x (y ∷ ys) w ws h e =
      elim (cases_Bool (same_number x y)) [
        | inl with ↦ omega (arith, h.0, same_number-true x y with)
        | inr without ↦ AreAtLeast-found n x ys w ws h.1 (sym (filter-dropped (same_number x) y ys without) ∙ e)
      ]

  same_from_numbers : (ys zs : List X) → Rises ys → Rises zs → ((x : X) → filter (same_number x) ys ≡ filter (same_number x) zs) → ys ≡ zs
  same_from_numbers [] [] left right same = refl
  same_from_numbers [] (z ∷ zs) left right same =
      let clash = same z ∙ filter-kept (same_number z) z zs (same_number_from z z refl) in cc
  same_from_numbers (y ∷ ys) [] left right same =
      let clash = sym (same y) ∙ filter-kept (same_number y) y ys (same_number_from y y refl) in cc
  same_from_numbers (y ∷ ys) (z ∷ zs) left right same =
      let at_y = filter-kept (same_number y) y ys (same_number_from y y refl) in
      let at_z = filter-kept (same_number z) z zs (same_number_from z z refl) in
      let up = AreAtLeast-found (number z) y (z ∷ zs) y _ (omega arith, right.0) (sym (same y) ∙ at_y) in
      let down = AreAtLeast-found (number y) z (y ∷ ys) z _ (omega arith, left.0) (same z ∙ at_z) in
      let heads = sym at_y ∙ same y ∙ filter-kept (same_number y) z zs (same_number_from y z (omega arith)) in
      let head : y ≡ z = cc in
      let tails : (x : X) → filter (same_number x) ys ≡ filter (same_number x) zs =
      λ x. elim (cases_Bool (same_number x y)) [
        | inl with ↦
            let both = sym (filter-kept (same_number x) y ys with) ∙ same x ∙ filter-kept (same_number x) z zs (ap (same_number x) (sym head) ∙ with) in cc
        | inr without ↦
            sym (filter-dropped (same_number x) y ys without) ∙ same x ∙ filter-dropped (same_number x) z zs (ap (same_number x) (sym head) ∙ without)
      ] in
      ap (λ w. w ∷ ys) head ∙ ap (λ l. z ∷ l) (same_from_numbers ys zs left.1 right.1 tails)

  pub in_order-from_sort : (xs ys : List X) → IsNonDecreasingBy number ys → IsStableByKey number nat_cmp xs ys → ys ≡ in_order number xs
  in_order-from_sort xs ys sorted stable =
      same_from_numbers ys (in_order number xs) (Rises-from_sort ys sorted) (Rises-in_order xs) (λ x. stable x ∙ sym (filter-in_order x xs))

-- ---- of other items

module _ {X Y : Type 0} (f : X → Y) (number : Y → ℕ) where
  map-put : (x : X) (xs : List X) → map f (put (λ z. number (f z)) x xs) ≡ put number (f x) (map f xs)
  map-put x [] = refl
  map-put x (y ∷ ys) =
      elim (nat_lt (number (f y)) (number (f x))) as (λ b.
      map f (if b then y ∷ put (λ z. number (f z)) x ys else x ∷ y ∷ ys) ≡ (if b then f y ∷ put number (f x) (map f ys) else f x ∷ f y ∷ map f ys)) [
        | true ↦ ap (λ l. f y ∷ l) (map-put x ys)
        | false ↦ refl
      ]

  pub map-in_order : (xs : List X) → map f (in_order (λ z. number (f z)) xs) ≡ in_order number (map f xs)
  map-in_order [] = refl
  map-in_order (x ∷ xs) = map-put x (in_order (λ z. number (f z)) xs) ∙ ap (put number (f x)) (map-in_order xs)

module _ {X Y : Type 0} (f : X → Y) (p : Y → Bool) where
  pub map-filter : (xs : List X) → map f (filter (λ z. p (f z)) xs) ≡ filter p (map f xs)
  map-filter [] = refl
  map-filter (x ∷ xs) =
      elim (p (f x)) as (λ b.
      map f (cond b (x ∷ filter (λ z. p (f z)) xs) (filter (λ z. p (f z)) xs)) ≡ cond b (f x ∷ filter p (map f xs)) (filter p (map f xs))) [
        | true ↦ ap (λ l. f x ∷ l) (map-filter xs)
        | false ↦ map-filter xs
      ]
