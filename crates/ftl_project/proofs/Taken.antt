-- Items that are taken one after the other, each of which gives some.
use Rattle.std.proofs.Common.{◌≡◌, ◌∙◌, ℕ, ◌+◌, List, [], ◌∷◌, ◌++◌, length, map, refl, ap, sym, append-nil, append_assoc, arith}
use Rattle.std.specs.List.{flat_map}

pub nothing_left : {X : Type 0} (l : List X) → length l ≡ 0 → l ≡ []
nothing_left [] h = refl
nothing_left (x ∷ xs) h = absurd (omega arith)

module _ {X Y : Type 0} (given : X → List Y) (all : List Y) where
  -- What was given, and then what is left gives, is all. So many are left.
  abbrev pub GivenSoFar : List Y → List X → ℕ → Type 0
  GivenSoFar now left count = (now ++ flat_map given left ≡ all) × (count ≡ length left)

  pub given_next : (now more : List Y) (left rest : List X) (one : X) (count fewer : ℕ) → GivenSoFar now left count → left ≡ one ∷ rest → fewer + 1 ≡ count → more ≡ now ++ given one → GivenSoFar more rest fewer
  given_next now more left rest one count fewer so_far is less pushed = (
    ap (λ l. l ++ flat_map given rest) pushed ∙ append_assoc now (given one) (flat_map given rest) ∙ ap (λ l. now ++ flat_map given l) (sym is) ∙ so_far.0,
    let long = ap length is in
        let was = so_far.1 in
        omega (arith, long, was, less),
  )

  pub given_at_last : (now : List Y) (left : List X) (count : ℕ) → GivenSoFar now left count → count ≡ 0 → now ≡ all
  given_at_last now left count so_far none =
      sym (append-nil now) ∙ ap (λ l. now ++ flat_map given l) (sym (nothing_left left (sym so_far.1 ∙ none))) ∙ so_far.0

-- one of each
pub given_ones : {X Y : Type 0} (one : X → Y) (xs : List X) → flat_map (λ x. one x ∷ []) xs ≡ map one xs
given_ones one [] = refl
given_ones one (x ∷ xs) = ap (λ l. one x ∷ l) (given_ones one xs)
