-- A window, by what is before a finding and what is after it.
use Rattle.std.proofs.Common.{◌≡◌, ◌∙◌, ℕ, zero, suc, ◌+◌, ◌-◌, ◌<◌, ◌≤◌, min, true, false, nat_lt, inl, inr, List, [], ◌∷◌, ◌++◌, length, take, drop, map, sym, ap, subst, arith, append-nil, length-append, length-drop}
use Rattle.std.specs.Str.{chars, IsUtf8}
use Rattle.std.proofs.lemmas.Str.{chars-append}
use Rattle.std.proofs.lemmas.Bool.{cases_lt}
use Rattle.std.proofs.lemmas.Bool.Decides.{nat_tests}
use Rattle.std.proofs.lemmas.List.{drop-append-le, length-take, take_all}
use Rattle.fluent_grammar.specs.Words.{Text}
use Rattle.lint_findings.specs.Position.{to_line_end}
use Rattle.lint_findings.specs.ShownLine.{masked_character, dots_if, first_shown, shown_characters, characters_before}
use Rattle.lint_findings.specs.PlaceView.{IsAfter}
use Rattle.lint_report.specs.declared.excerpts.Excerpt.{Excerpt}
use Rattle.lint_report.specs.declared.excerpts.Window.{Window}
use Rattle.lint_report.specs.Excerpts.{IsFront, IsEnd, IsWindow}

same_test : (m n p q : ℕ) → (m < n → p < q) → (p < q → m < n) → nat_lt m n ≡ nat_lt p q
same_test m n p q there back =
    elim (cases_lt m n) [
      | inl less ↦ (let other = there less in less_is m n less ∙ sym (less_is p q other))
      | inr over ↦ elim (cases_lt p q) [
        | inl less ↦ absurd (let other = back less in omega (arith, over, other))
        | inr other ↦ less_not m n over ∙ sym (less_not p q other)
      ]
    ]
  where
    less_is : (m n : ℕ) → m < n → nat_lt m n ≡ true
    less_is m n h = grind (arith, nat_tests)

    less_not : (m n : ℕ) → n ≤ m → nat_lt m n ≡ false
    less_not m n h = grind (arith, nat_tests)

take_both : {A : Type 0} (n : ℕ) (xs ys : List A) → length xs ≤ n → take n (xs ++ ys) ≡ xs ++ take (n - length xs) ys
take_both n [] ys short = ap (λ k. take k ys) (let same : n ≡ n - 0 = omega arith in same)
take_both zero (x ∷ xs) ys short = absurd (omega arith)
take_both (suc n) (x ∷ xs) ys short =
    let same : n - length xs ≡ suc n - suc (length xs) = omega arith in
    ap (λ t. x ∷ t) (take_both n xs ys (omega arith)) ∙ ap (λ k. x ∷ (xs ++ take k ys)) same

-- Of a line with these characters before a finding and from it on.
module _ (xs ys : List ℕ) (at : ℕ) (not_less : length xs ≤ at) (same : 0 < length ys → at ≡ length xs) where
  first_is : first_shown (length (xs ++ ys)) at ≡ length xs - (120 - min 60 (length ys))
  first_is =
      elim (cases_lt 0 (length ys)) [
        | inl some ↦ (let here = same some in omega (arith, length-append xs ys, here))
        | inr none ↦ omega (arith, length-append xs ys, not_less, none)
      ]

  kept : length (drop (length xs - (120 - min 60 (length ys))) xs) ≡ min (length xs) (120 - min 60 (length ys))
  kept = omega (arith, length-drop (length xs - (120 - min 60 (length ys))) xs)

  shown_is : take 120 (drop (length xs - (120 - min 60 (length ys))) (xs ++ ys))
      ≡ drop (length xs - (120 - min 60 (length ys))) xs ++ take (120 - length (drop (length xs - (120 - min 60 (length ys))) xs)) ys
  shown_is =
      ap (take 120) (drop-append-le (length xs - (120 - min 60 (length ys))) xs ys (omega arith))
      ∙ take_both 120 (drop (length xs - (120 - min 60 (length ys))) xs) ys (omega (arith, kept))

  before_characters : take (at - (length xs - (120 - min 60 (length ys)))) (drop (length xs - (120 - min 60 (length ys))) (xs ++ ys))
      ≡ drop (length xs - (120 - min 60 (length ys))) xs
  before_characters =
      let f = length xs - (120 - min 60 (length ys)) in
      let front : length (drop (length xs - (120 - min 60 (length ys))) xs) ≤ at - (length xs - (120 - min 60 (length ys))) =
      omega (arith, length-drop (length xs - (120 - min 60 (length ys))) xs, not_less) in
      ap (take (at - f)) (drop-append-le f xs ys (omega arith))
      ∙ take_both (at - f) (drop f xs) ys front
      ∙ ap (λ t. drop f xs ++ t) (rest_none (at - f - length (drop f xs)) ys (λ some.
      let here = same some in omega (arith, length-drop (length xs - (120 - min 60 (length ys))) xs, here)))
      ∙ append-nil (drop f xs)
    where
      rest_none : (n : ℕ) (zs : List ℕ) → (0 < length zs → n ≡ 0) → take n zs ≡ []
      rest_none n [] none = take_all n [] (omega arith)
      rest_none n (z ∷ zs) none = ap (λ k. take k (z ∷ zs)) (none (omega arith))

  cut_before : nat_lt 0 (length xs - (120 - min 60 (length ys))) ≡ nat_lt (120 - min 60 (length ys)) (length xs)
  cut_before = same_test 0 (length xs - (120 - min 60 (length ys))) (120 - min 60 (length ys)) (length xs) (λ h. omega arith) (λ h. omega arith)

  cut_after : nat_lt (length xs - (120 - min 60 (length ys)) + 120) (length (xs ++ ys))
      ≡ nat_lt (120 - length (drop (length xs - (120 - min 60 (length ys))) xs)) (length ys)
  cut_after =
      same_test (length xs - (120 - min 60 (length ys)) + 120) (length (xs ++ ys)) (120 - length (drop (length xs - (120 - min 60 (length ys))) xs)) (length ys)
      (λ h. omega (arith, kept, length-append xs ys, h)) (λ h. omega (arith, kept, length-append xs ys, h))

-- ---- the window

abbrev line_characters : Text → Text → List ℕ
line_characters front rest = chars front ++ chars (to_line_end rest)

abbrev IsWindowOf : List ℕ → ℕ → Window → Type 0
IsWindowOf line at w =
    (shown_characters line at ≡ dots_if w.before.is_cut ++ (map masked_character (chars w.before.text.now ++ chars w.after.text.now) ++ dots_if w.after.is_cut))
    × (characters_before line at ≡ dots_if w.before.is_cut ++ map masked_character (chars w.before.text.now))

window_of_parts : (front rest : Text) (near before after : Excerpt) → IsFront rest 60 near → IsEnd front (120 - near.count) before →
    IsFront rest (120 - before.count) after → (at : ℕ) → IsAfter front rest at →
    IsWindowOf (line_characters front rest) at (record { before = before; after = after })
window_of_parts front rest near before after near_is before_is after_is at is_after =
    let xs = chars front in
    let ys = chars (to_line_end rest) in
    let k : near.count ≡ min 60 (length (chars (to_line_end rest))) =
    near_is.count ∙ ap length near_is.characters ∙ length-take 60 (chars (to_line_end rest)) in
    let f : length (chars front) - (120 - near.count) ≡ length (chars front) - (120 - min 60 (length (chars (to_line_end rest)))) =
    ap (λ n. length (chars front) - (120 - n)) k in
    let shown_before : chars before.text.now ≡ drop (length (chars front) - (120 - min 60 (length (chars (to_line_end rest))))) (chars front) =
    before_is.characters ∙ ap (λ n. drop n (chars front)) f in
    let count : before.count ≡ length (drop (length (chars front) - (120 - min 60 (length (chars (to_line_end rest))))) (chars front)) =
    before_is.count ∙ ap length shown_before in
    let shown_after : chars after.text.now ≡ take (120 - length (drop (length (chars front) - (120 - min 60 (length (chars (to_line_end rest))))) (chars front))) (chars (to_line_end rest)) =
    after_is.characters ∙ ap (λ n. take (120 - n) (chars (to_line_end rest))) count in
    let cut_b : nat_lt 0 (length (chars front) - (120 - min 60 (length (chars (to_line_end rest))))) ≡ before.is_cut =
    cut_before xs ys at is_after.not_less is_after.same
    ∙ ap (λ n. nat_lt (120 - n) (length (chars front))) (sym k) ∙ sym before_is.is_cut in
    let cut_a : nat_lt (length (chars front) - (120 - min 60 (length (chars (to_line_end rest)))) + 120) (length (line_characters front rest)) ≡ after.is_cut =
    cut_after xs ys at is_after.not_less is_after.same
    ∙ ap (λ n. nat_lt (120 - n) (length (chars (to_line_end rest)))) (sym count) ∙ sym after_is.is_cut in
    let first = first_is xs ys at is_after.not_less is_after.same in
    let both : take 120 (drop (length (chars front) - (120 - min 60 (length (chars (to_line_end rest))))) (line_characters front rest))
    ≡ chars before.text.now ++ chars after.text.now =
    shown_is xs ys at is_after.not_less is_after.same
    ∙ ap (λ t. t ++ take (120 - length (drop (length (chars front) - (120 - min 60 (length (chars (to_line_end rest))))) (chars front))) (chars (to_line_end rest))) (sym shown_before)
    ∙ ap (λ t. chars before.text.now ++ t) (sym shown_after) in (
      ap (λ n. dots_if (nat_lt 0 n) ++ (map masked_character (take 120 (drop n (line_characters front rest))) ++ dots_if (nat_lt (n + 120) (length (line_characters front rest))))) first
          ∙ ap (λ b. dots_if b ++ (map masked_character (take 120 (drop (length (chars front) - (120 - min 60 (length (chars (to_line_end rest))))) (line_characters front rest)))
          ++ dots_if (nat_lt (length (chars front) - (120 - min 60 (length (chars (to_line_end rest)))) + 120) (length (line_characters front rest))))) cut_b
          ∙ ap (λ t. dots_if before.is_cut ++ (map masked_character t
          ++ dots_if (nat_lt (length (chars front) - (120 - min 60 (length (chars (to_line_end rest)))) + 120) (length (line_characters front rest))))) both
          ∙ ap (λ b. dots_if before.is_cut ++ (map masked_character (chars before.text.now ++ chars after.text.now) ++ dots_if b)) cut_a,
      ap (λ n. dots_if (nat_lt 0 n) ++ map masked_character (take (at - n) (drop n (line_characters front rest)))) first
          ∙ ap (λ b. dots_if b ++ map masked_character (take (at - (length (chars front) - (120 - min 60 (length (chars (to_line_end rest))))))
          (drop (length (chars front) - (120 - min 60 (length (chars (to_line_end rest))))) (line_characters front rest)))) cut_b
          ∙ ap (λ t. dots_if before.is_cut ++ map masked_character t) (before_characters xs ys at is_after.not_less is_after.same ∙ sym shown_before),
    )

pub window_is : (front rest : Text) (near before after : Excerpt) → IsUtf8 front → IsFront rest 60 near → IsEnd front (120 - near.count) before →
    IsFront rest (120 - before.count) after → IsWindow front rest (record { before = before; after = after })
window_is front rest near before after utf8 near_is before_is after_is at is_after =
    let W : List ℕ → Type 0 = λ l. IsWindowOf l at (record { before = before; after = after }) in
    subst W (sym (chars-append front (to_line_end rest) utf8)) (window_of_parts front rest near before after near_is before_is after_is at is_after)

pub few_near : (rest : Text) (near : Excerpt) → IsFront rest 60 near → near.count ≤ 120
few_near rest near near_is =
    let count : near.count ≡ min 60 (length (chars (to_line_end rest))) =
    near_is.count ∙ ap length near_is.characters ∙ length-take 60 (chars (to_line_end rest)) in
    omega (arith, count)
