-- The escape at the front of a text, by its digits.
use Rattle.std.proofs.Common.{◌≡◌, ◌∙◌, ℕ, suc, ◌+◌, ◌<◌, Bool, true, false, if◌then◌else◌, List, [], ◌∷◌, take, drop, refl, sym, ap, arith}
use Rattle.std.specs.Prelude.{◌==◌}
use Rattle.std.proofs.lemmas.Bool.Decides.{nat_tests}
use Rattle.fluent_grammar.specs.Words.{Text, backslash, small_u, capital_u, begins_with}
use Rattle.lint_findings.specs.Escapes.{is_no_character, invalid_digits}
use Rattle.fluent_tokens.specs.Counted.{Cuts}
use Rattle.fluent_tokens.proofs.Counted.{cut_by_ascii}
use Rattle.lint_flaws.specs.Escape.{escape_there, digit_count}

none_step : (a b : Bool) (xs ys : List Text) → ◌≡◌ {A = ℕ} (if a then 4 else if b then 6 else 0) 0 → [] ≡ (if a then xs else if b then ys else [])
none_step true b xs ys h = absurd (omega (arith, h))
none_step false true xs ys h = absurd (omega (arith, h))
none_step false false xs ys h = refl

some_step : (a b : Bool) (d : ℕ) (ds : Text) → 0 < (if a then 4 else if b then 6 else 0) → (if a then invalid_digits 4 d ds else if b then invalid_digits 6 d ds else []) ≡ invalid_digits (if a then 4 else if b then 6 else 0) d ds
some_step true b d ds h = refl
some_step false true d ds h = refl
some_step false false d ds h = absurd (omega (arith, h))

letter_step : (a b : Bool) (d : ℕ) → (d == small_u) ≡ a → (d == capital_u) ≡ b → 0 < (if a then 4 else if b then 6 else 0) → d < 128
letter_step true b d e f h = grind (arith, nat_tests)
letter_step false true d e f h = grind (arith, nat_tests)
letter_step false false d e f h = absurd (omega (arith, h))

-- without digits
pub no_digits : (s : Text) → digit_count s ≡ 0 → [] ≡ escape_there s
no_digits [] h = refl
no_digits (c ∷ []) h = refl
no_digits (c ∷ d ∷ ds) h = none_step (d == small_u) (d == capital_u) (invalid_digits 4 d ds) (invalid_digits 6 d ds) h

take_two : (n c d : ℕ) (ds : Text) → take (2 + n) (c ∷ d ∷ ds) ≡ c ∷ d ∷ take n ds
take_two n c d ds = let e : 2 + n ≡ suc (suc n) = omega arith in ap (λ k. take k (c ∷ d ∷ ds)) e

-- with digits that write no character
pub shown : (s : Text) (n : ℕ) → begins_with backslash s ≡ true → n ≡ digit_count s → 0 < n → is_no_character n (drop 2 s) ≡ true → take (2 + n) s ∷ [] ≡ escape_there s
shown [] n b e some h = absurd cc
shown (c ∷ []) n b e some h = absurd (omega (arith, e, some))
shown (c ∷ d ∷ ds) n b e some h =
    let is : c ≡ 92 = grind (arith, nat_tests) in
    ap (λ x. x ∷ []) (take_two n c d ds ∙ ap (λ x. x ∷ d ∷ take n ds) is)
    ∙ sym (some_step (d == small_u) (d == capital_u) d ds (omega (arith, e, some)) ∙ ap (λ k. invalid_digits k d ds) (sym e) ∙ ap (λ t. if t then (backslash ∷ d ∷ take n ds) ∷ [] else []) h)

-- with digits that write one
pub fine : (s : Text) (n : ℕ) → n ≡ digit_count s → 0 < n → is_no_character n (drop 2 s) ≡ false → [] ≡ escape_there s
fine [] n e some h = refl
fine (c ∷ []) n e some h = refl
fine (c ∷ d ∷ ds) n e some h =
    sym (some_step (d == small_u) (d == capital_u) d ds (omega (arith, e, some)) ∙ ap (λ k. invalid_digits k d ds) (sym e) ∙ ap (λ t. if t then (backslash ∷ d ∷ take n ds) ∷ [] else []) h)

pub two_cut : (s : Text) → 0 < digit_count s → Cuts s 2
two_cut [] h = absurd (omega (arith, h))
two_cut (c ∷ []) h = absurd (omega (arith, h))
two_cut (c ∷ d ∷ ds) h = cut_by_ascii (c ∷ d ∷ ds) 2 (omega arith) (λ k. letter_step (d == small_u) (d == capital_u) d refl refl h)
