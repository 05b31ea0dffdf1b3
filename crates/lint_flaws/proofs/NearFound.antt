-- Near names from an offset on.
use Rattle.std.proofs.Common.{◌≡◌, ◌∙◌, ℕ, suc, ◌+◌, ◌<◌, ◌≤◌, Bool, true, false, if◌then◌else◌, List, [], ◌∷◌, ◌++◌, length, map, take, drop, get_or, Some, refl, ap, sym, append_assoc, arith, String}
use Rattle.std.specs.List.{find}
use Rattle.std.specs.Option.{option_or}
use Rattle.std.proofs.lemmas.List.{take_more, take_all, drop_all, length-drop}
use Rattle.std.proofs.lemmas.List.Folds.{find-append}
use Rattle.std.proofs.lemmas.Simd.{map-map}
use Rattle.std.proofs.Math.Seq.{drop-cons}
use Rattle.std.specs.Global.{Global}
use Rattle.lint_flaws.specs.Near.{Finds, between, found_name}
use Rattle.fluent_grammar.specs.Words.{Text}
use Rattle.lint_findings.specs.NearNames.{after_byte, additions, name_bytes, omissions, replacements, swaps, after_any_byte}

-- texts, each after a front
abbrev pub after : Text → List Text → List Text
after front texts = map (λ s. front ++ s) texts

after-nil : (texts : List Text) → after [] texts ≡ texts
after-nil [] = refl
after-nil (t ∷ ts) = ap (λ l. t ∷ l) (after-nil ts)

after-byte : (front : Text) (x : ℕ) (texts : List Text) → after front (after_byte x texts) ≡ after (front ++ x ∷ []) texts
after-byte front x [] = refl
after-byte front x (t ∷ ts) =
    ap (λ u. u ∷ after front (after_byte x ts)) (sym (append_assoc front (x ∷ []) t)) ∙ ap (λ l. ((front ++ x ∷ []) ++ t) ∷ l) (after-byte front x ts)

after-append : (front : Text) (ts us : List Text) → after front (ts ++ us) ≡ after front ts ++ after front us
after-append front [] us = refl
after-append front (t ∷ ts) us = ap (λ l. (front ++ t) ∷ l) (after-append front ts us)

-- those with a byte of a list, from one of its places on
pub between_at : (front back bytes : Text) (i : ℕ) → i < length bytes →
    map (λ c. front ++ c ∷ back) (drop i bytes) ≡ (front ++ get_or bytes i 0 ∷ back) ∷ map (λ c. front ++ c ∷ back) (drop (i + 1) bytes)
between_at front back bytes i inside = let next : suc i ≡ i + 1 = omega arith in ap (map (λ c. front ++ c ∷ back)) (drop-cons bytes i 0 inside ∙ ap (λ n. get_or bytes i 0 ∷ drop n bytes) next)

front_and_any_byte : (front back : Text) → after front (after_any_byte back) ≡ between front back
front_and_any_byte front back = map-map (λ s. front ++ s) (λ c. c ∷ back) name_bytes

-- ---- what is left of near names at an offset

module _ (s : Text) where
  abbrev pub swaps_from : ℕ → List Text
  swaps_from i = after (take i s) (swaps (drop i s))

  abbrev pub omissions_from : ℕ → List Text
  omissions_from i = after (take i s) (omissions (drop i s))

  abbrev pub replacements_from : ℕ → List Text
  replacements_from i = after (take i s) (replacements (drop i s))

  abbrev pub additions_from : ℕ → List Text
  additions_from i = after (take i s) (additions (drop i s))

  -- the front of the next offset
  more : (i : ℕ) → i < length s → (ts : List Text) → after (take i s) (after_byte (get_or s i 0) ts) ≡ after (take (i + 1) s) ts
  more i inside ts = after-byte (take i s) (get_or s i 0) ts ∙ ap (λ front. after front ts) (sym (take_more s i 0 inside))

  at : (i : ℕ) → i < length s → drop i s ≡ get_or s i 0 ∷ drop (i + 1) s
  at i inside = let next : suc i ≡ i + 1 = omega arith in drop-cons s i 0 inside ∙ ap (λ n. get_or s i 0 ∷ drop n s) next

  pub swaps_at : (i : ℕ) → i + 1 < length s → swaps_from i ≡ (take i s ++ get_or s (i + 1) 0 ∷ get_or s i 0 ∷ drop (i + 2) s) ∷ swaps_from (i + 1)
  swaps_at i inside =
      let x = get_or s i 0 in
      let y = get_or s (i + 1) 0 in
      let here : i < length s = omega arith in
      let two : drop (i + 1) s ≡ y ∷ drop (i + 2) s = let next : i + 1 + 1 ≡ i + 2 = omega arith in at (i + 1) inside ∙ ap (λ n. y ∷ drop n s) next in
      let all : drop i s ≡ x ∷ y ∷ drop (i + 2) s = at i here ∙ ap (λ t. x ∷ t) two in
      ap (λ t. after (take i s) (swaps t)) all
      ∙ ap (λ t. (take i s ++ y ∷ x ∷ drop (i + 2) s) ∷ after (take i s) (after_byte x (swaps t))) (sym two)
      ∙ ap (λ l. (take i s ++ y ∷ x ∷ drop (i + 2) s) ∷ l) (more i here (swaps (drop (i + 1) s)))

  pub omissions_at : (i : ℕ) → i < length s → omissions_from i ≡ (take i s ++ drop (i + 1) s) ∷ omissions_from (i + 1)
  omissions_at i inside =
      ap (λ t. after (take i s) (omissions t)) (at i inside)
      ∙ ap (λ l. (take i s ++ drop (i + 1) s) ∷ l) (more i inside (omissions (drop (i + 1) s)))

  pub replacements_at : (i : ℕ) → i < length s → replacements_from i ≡ between (take i s) (drop (i + 1) s) ++ replacements_from (i + 1)
  replacements_at i inside =
      let back = drop (i + 1) s in
      ap (λ t. after (take i s) (replacements t)) (at i inside)
      ∙ after-append (take i s) (after_any_byte back) (after_byte (get_or s i 0) (replacements back))
      ∙ ap (λ l. l ++ after (take i s) (after_byte (get_or s i 0) (replacements back))) (front_and_any_byte (take i s) back)
      ∙ ap (λ l. between (take i s) back ++ l) (more i inside (replacements back))

  pub additions_at : (i : ℕ) → i < length s → additions_from i ≡ between (take i s) (drop i s) ++ additions_from (i + 1)
  additions_at i inside =
      let back = drop (i + 1) s in
      let x = get_or s i 0 in
      ap (λ t. after (take i s) (additions t)) (at i inside)
      ∙ after-append (take i s) (after_any_byte (x ∷ back)) (after_byte x (additions back))
      ∙ ap (λ l. l ++ after (take i s) (after_byte x (additions back))) (front_and_any_byte (take i s) (x ∷ back))
      ∙ ap (λ t. between (take i s) t ++ after (take i s) (after_byte x (additions back))) (sym (at i inside))
      ∙ ap (λ l. between (take i s) (drop i s) ++ l) (more i inside (additions back))

  -- ---- at the start and at the end

  pub from_start : (names : Text → List Text) → names s ≡ after (take 0 s) (names (drop 0 s))
  from_start names = sym (after-nil (names s))

  pub no_swaps : (i : ℕ) → length s ≤ i + 1 → swaps_from i ≡ []
  no_swaps i past = ap (after (take i s)) (short (drop i s) (simp length-drop (omega arith)))
    where
      short : (t : Text) → length t ≤ 1 → swaps t ≡ []
      short [] h = refl
      short (x ∷ []) h = refl
      short (x ∷ y ∷ t) h = absurd (omega arith)

  pub no_omissions : (i : ℕ) → length s ≤ i → omissions_from i ≡ []
  no_omissions i past = ap (λ t. after (take i s) (omissions t)) (drop_all i s past)

  pub no_replacements : (i : ℕ) → length s ≤ i → replacements_from i ≡ []
  no_replacements i past = ap (λ t. after (take i s) (replacements t)) (drop_all i s past)

  pub last_additions : (i : ℕ) → length s ≤ i → additions_from i ≡ between s []
  last_additions i past =
      ap (λ t. after (take i s) (additions t)) (drop_all i s past)
      ∙ front_and_any_byte (take i s) [] ∙ ap (λ t. between t []) (take_all i s past)

-- ---- what is found

module _ (p : Text → Bool) where
  pub found_first : (all rest : List Text) (t : Text) → all ≡ t ∷ rest → p t ≡ true → find p all ≡ Some t
  found_first all rest t is known = ap (find p) is ∙ ap (λ b. if b then Some t else find p rest) known

  pub found_later : (all rest : List Text) (t : Text) → all ≡ t ∷ rest → p t ≡ false → find p all ≡ find p rest
  found_later all rest t is unknown = ap (find p) is ∙ ap (λ b. if b then Some t else find p rest) unknown

  -- by a search of the first of two lists
  pub found_among : (all first rest : List Text) (found : Bool) (near : String Global) → all ≡ first ++ rest → Finds found near (find p first) → found ≡ true → Finds true near (find p all)
  found_among all first rest found near is finds known =
      sym (ap (find p) is ∙ find-append p first rest ∙ ap (λ o. option_or o (find p rest)) (sym finds ∙ ap (λ b. found_name b near) known))

  pub found_after : (all first rest : List Text) (found : Bool) (near : String Global) → all ≡ first ++ rest → Finds found near (find p first) → found ≡ false → find p all ≡ find p rest
  found_after all first rest found near is finds unknown =
      ap (find p) is ∙ find-append p first rest ∙ ap (λ o. option_or o (find p rest)) (sym finds ∙ ap (λ b. found_name b near) unknown)

-- ---- texts, piece by piece

-- texts that are joined in this order
pub joined : (front : Text) (x y : ℕ) (back : Text) {a b d e : Text} → a ≡ front → b ≡ a ++ x ∷ [] → d ≡ b ++ y ∷ [] → e ≡ d ++ back → e ≡ front ++ x ∷ y ∷ back
joined front x y back p q r s =
    s ∙ ap (λ t. t ++ back) (r ∙ ap (λ t. t ++ y ∷ []) (q ∙ ap (λ t. t ++ x ∷ []) p))
    ∙ append_assoc (front ++ x ∷ []) (y ∷ []) back ∙ append_assoc front (x ∷ []) (y ∷ back)

pub joined_one : (front : Text) (x : ℕ) (back : Text) {a b d : Text} → a ≡ front → b ≡ a ++ x ∷ [] → d ≡ b ++ back → d ≡ front ++ x ∷ back
joined_one front x back p q r = r ∙ ap (λ t. t ++ back) (q ∙ ap (λ t. t ++ x ∷ []) p) ∙ append_assoc front (x ∷ []) back
