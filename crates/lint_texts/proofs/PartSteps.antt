-- The parts of a text, from tag to tag.
use Rattle.std.proofs.Common.{◌≡◌, ◌∙◌, ℕ, zero, suc, ◌+◌, ◌-◌, ◌<◌, ◌≤◌, Bool, true, false, if◌then◌else◌, List, [], ◌∷◌, ◌++◌, length, drop, take, get_or, Option, Some, None, refl, ap, sym, arith, append_assoc, append-nil, length-drop, get_or-drop, map, Bor}
use Rattle.std.specs.Prelude.{◌==◌}
use Rattle.std.specs.List.{flat_map}
use Rattle.std.proofs.lemmas.Bool.{ne_eqb}
use Rattle.std.proofs.lemmas.Bool.Decides.{nat_tests}
use Rattle.std.proofs.lemmas.List.{drop-drop, drop_all, drop_more, take_all, take_more}
use Rattle.memchr.specs.Find.{IsFirstByte, is_byte}
use Rattle.fluent_grammar.specs.Words.{Text}
use Rattle.fluent_tokens.specs.Counted.{Cuts}
use Rattle.fluent_tokens.proofs.Counted.{cut_before_ascii}
use Rattle.lint_findings.specs.Numbers.{parts_after, plain_parts, tag_len, untagged}
use Rattle.lint_findings.specs.Tags.{less, tag_after, tag_at}
use Rattle.lint_markup.specs.Pieces.{after_tag}
use Rattle.lint_texts.specs.Parts.{IsPart}

not_true : (b : Bool) → (b ≡ true → ⊥) → b ≡ false
not_true true h = absurd (h refl)
not_true false h = refl

not_zero : (n : ℕ) → (suc n == 0) ≡ false
not_zero n = ne_eqb (suc n) 0 (λ e. omega (arith, e))

-- ---- bytes that are passed

no_sign : (c : ℕ) (s : Text) → (c == less) ≡ false → tag_at (c ∷ s) ≡ None
no_sign c s h = ap (λ b. if b then tag_after (c ∷ s) s else None) h

no_tag : (part : Text) (c : ℕ) (s : Text) → tag_len (tag_at (c ∷ s)) ≡ 0 → parts_after part 0 (c ∷ s) ≡ parts_after (part ++ c ∷ []) 0 s
no_tag part c s none = ap (λ n. if n == 0 then parts_after (part ++ c ∷ []) zero s else part ∷ parts_after [] (n - 1) s) none

one_passed : (part : Text) (c : ℕ) (s : Text) → (c == less) ≡ false → parts_after part 0 (c ∷ s) ≡ parts_after (part ++ c ∷ []) 0 s
one_passed part c s h = no_tag part c s (ap tag_len (no_sign c s h))

passed : (part s : Text) (k : ℕ) → k ≤ length s → ((j : ℕ) → j < k → is_byte less (get_or s j 0) ≡ true → ⊥) →
    parts_after part 0 s ≡ parts_after (part ++ take k s) 0 (drop k s)
passed part s zero le none = ap (λ z. parts_after z 0 s) (sym (append-nil part))
passed part [] (suc k) le none = absurd (omega (arith, le))
passed part (c ∷ s) (suc k) le none =
    one_passed part c s (not_true (is_byte less c) (none 0 (omega arith)))
    ∙ passed (part ++ c ∷ []) s k (omega (arith, le)) (λ j lt. none (suc j) (omega (arith, lt)))
    ∙ ap (λ z. parts_after z 0 (drop k s)) (append_assoc part (c ∷ []) (take k s))

-- what is so far without a tag: from this place on
abbrev pub IsPlainTo : Text → ℕ → Type 0
IsPlainTo s i = plain_parts s ≡ parts_after (take i s) 0 (drop i s)

take_none : (k : ℕ) → take {A = ℕ} k [] ≡ []
take_none zero = refl
take_none (suc k) = refl

take_both : (s : Text) (i k : ℕ) → take i s ++ take k (drop i s) ≡ take (i + k) s
take_both s zero k =
    let e : 0 + k ≡ k = omega arith in
    rw e refl
take_both [] (suc i) k =
    let e : suc i + k ≡ suc (i + k) = omega arith in
    rw e (take_none k)
take_both (c ∷ s) (suc i) k =
    let e : suc i + k ≡ suc (i + k) = omega arith in
    rw e (ap (λ z. c ∷ z) (take_both s i k))

pub to_sign : (s : Text) (i k : ℕ) → IsPlainTo s i → IsFirstByte (is_byte less) (drop i s) (Some k) → (i + k < length s) × IsPlainTo s (i + k)
to_sign s i k so_far found = (
  omega (arith, found.0.high, length-drop i s),
  so_far
      ∙ passed (take i s) (drop i s) k (omega (arith, found.0.high)) (λ j lt. found.0.before j (omega arith) lt)
      ∙ ap (λ z. parts_after z 0 (drop k (drop i s))) (take_both s i k)
      ∙ ap (parts_after (take (i + k) s) 0) (drop-drop k i s),
)

pub to_end : (s : Text) (i : ℕ) → IsPlainTo s i → IsFirstByte (is_byte less) (drop i s) None → plain_parts s ≡ s ∷ []
to_end s i so_far none =
    so_far
    ∙ passed (take i s) (drop i s) (length (drop i s)) (omega arith) (λ j lt. none j (omega arith) lt)
    ∙ ap (λ z. parts_after z 0 (drop (length (drop i s)) (drop i s))) (take_both s i (length (drop i s)))
    ∙ ap (parts_after (take (i + length (drop i s)) s) 0) (drop_all (length (drop i s)) (drop i s) (omega arith))
    ∙ ap (λ z. z ∷ []) (take_all (i + length (drop i s)) s (omega (arith, length-drop i s)))

-- ---- at a sign

none_after : (n : ℕ) (s : Text) → (if n == 0 then None else Some (drop n s)) ≡ None → n ≡ 0
none_after zero s h = refl
none_after (suc n) s h =
    let is = sym (ap (λ b. if b then None else Some (drop (suc n) s)) (not_zero n)) ∙ h in
    absurd cc

-- no tag is there
pub past_sign : (s : Text) (i : ℕ) → i < length s → IsPlainTo s i → after_tag (drop i s) ≡ None → IsPlainTo s (i + 1)
past_sign s i inside so_far none =
    let front : drop i s ≡ get_or s i 0 ∷ drop (i + 1) s = drop_more s i 0 inside in
    let zero_len : tag_len (tag_at (get_or s i 0 ∷ drop (i + 1) s)) ≡ 0 = ap (λ t. tag_len (tag_at t)) (sym front) ∙ none_after (tag_len (tag_at (drop i s))) (drop i s) none in
    so_far ∙ ap (parts_after (take i s) 0) front ∙ no_tag (take i s) (get_or s i 0) (drop (i + 1) s) zero_len
    ∙ ap (λ z. parts_after z 0 (drop (i + 1) s)) (sym (take_more s i 0 inside))

skipped : (part : Text) (n : ℕ) (s : Text) → parts_after part n s ≡ parts_after part 0 (drop n s)
skipped part zero s = refl
skipped part (suc n) [] = refl
skipped part (suc n) (c ∷ s) = skipped part n s

some_after : (n : ℕ) (c : ℕ) (s after : Text) (part : Text) → (if n == 0 then None else Some (drop n (c ∷ s))) ≡ Some after →
    ((if n == 0 then parts_after (part ++ c ∷ []) 0 s else part ∷ parts_after [] (n - 1) s) ≡ part ∷ plain_parts after) × (length after < length (c ∷ s))
some_after zero c s after part h = absurd cc
some_after (suc n) c s after part h =
    let there : ◌≡◌ {A = Option Text} (Some (drop n s)) (Some after) = sym (ap (λ b. if b then None else Some (drop (suc n) (c ∷ s))) (not_zero n)) ∙ h in
    let is : drop n s ≡ after = cc in
    let less_one : suc n - 1 ≡ n = omega arith in (
      rw (not_zero n, less_one) (ap (λ z. part ∷ z) (skipped [] n s) ∙ ap (λ z. part ∷ plain_parts z) is),
      rw (← is) (omega (arith, length-drop n s)),
    )

cut_sign : (s : Text) (i : ℕ) → i < length s → is_byte less (get_or s i 0) ≡ true → Cuts s i
cut_sign s i inside sign = cut_before_ascii s i inside (grind (arith, nat_tests))

-- a tag is there
pub at_tag : (s : Text) (i : ℕ) (after : Text) → i < length s → is_byte less (get_or s i 0) ≡ true → IsPlainTo s i → after_tag (drop i s) ≡ Some after → IsPart s i after
at_tag s i after inside sign so_far found =
    let front : drop i s ≡ get_or s i 0 ∷ drop (i + 1) s = drop_more s i 0 inside in
    let there : after_tag (get_or s i 0 ∷ drop (i + 1) s) ≡ Some after = ap after_tag (sym front) ∙ found in
    let both = some_after (tag_len (tag_at (get_or s i 0 ∷ drop (i + 1) s))) (get_or s i 0) (drop (i + 1) s) after (take i s) there in
    let shorter : length after < length (drop i s) = rw front both.1 in
    record {
      parts = so_far ∙ ap (parts_after (take i s) 0) front ∙ both.0;
      shorter = omega (arith, shorter, length-drop i s);
      cuts = cut_sign s i inside sign;
    }

-- the byte that was found is a sign
pub sign_at : (s : Text) (i k : ℕ) → IsFirstByte (is_byte less) (drop i s) (Some k) → is_byte less (get_or s (i + k) 0) ≡ true
sign_at s i k found = ap (is_byte less) (sym (get_or-drop i s k 0)) ∙ found.1

-- ---- texts without a tag

pub untagged_is : (s : Text) → IsFirstByte (is_byte less) s None → untagged s ≡ s
untagged_is s none = ap (flat_map (λ part. part)) (to_end s 0 refl none) ∙ append-nil s

pub joined_is : (xs : List (Bor Text)) → flat_map (λ s. s.now) xs ≡ flat_map (λ part. part) (map (λ s. s.now) xs)
joined_is [] = refl
joined_is (x ∷ xs) = ap (λ z. x.now ++ z) (joined_is xs)
