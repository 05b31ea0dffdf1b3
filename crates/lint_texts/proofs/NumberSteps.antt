-- The numbers of a text, one after the other.
use Rattle.std.proofs.Common.{◌≡◌, ◌∙◌, ℕ, zero, suc, ◌+◌, ◌-◌, ◌<◌, ◌≤◌, Bool, true, false, cond, not, ◌&&◌, ◌||◌, if◌then◌else◌, List, [], ◌∷◌, ◌++◌, length, drop, get_or, max, min, refl, ap, sym, arith, append-nil, get_or-drop, length-drop}
use Rattle.std.specs.Prelude.{◌==◌}
use Rattle.std.specs.List.{flat_map, list_any, prefix_len}
use Rattle.std.proofs.lemmas.Bool.{ne_eqb, or_from, or_parts}
use Rattle.std.proofs.lemmas.Bool.Decides.{nat_tests}
use Rattle.std.proofs.lemmas.List.{drop-drop, drop_more}
use Rattle.std.proofs.lemmas.List.Folds.{list_any-append}
use Rattle.std.proofs.lemmas.List.Sums.{prefix_len-le-length, prefix_len_passes}
use Rattle.fluent_grammar.specs.Words.{Text, begins, is_digit}
use Rattle.fluent_tokens.specs.Counted.{Cuts}
use Rattle.fluent_tokens.proofs.Counted.{cut_before_ascii, cut_by_ascii}
use Rattle.lint_findings.specs.Addresses.{scheme_len}
use Rattle.lint_findings.specs.Comparison.{without}
use Rattle.lint_findings.specs.Numbers.{Number, address_len, digits_of, first_gone, number_at, numbers, numbers_beside, numbers_from, numbers_in, parts_after, tag_len, without_zeros}
use Rattle.lint_findings.specs.Tags.{is_blank_byte, tag_at}
use Rattle.lint_texts.specs.NumberParts.{if_number, numbers_between, passed_len, zeros_len}

not_zero : (n : ℕ) → (suc n == 0) ≡ false
not_zero n = ne_eqb (suc n) 0 (λ e. omega (arith, e))

-- ---- from place to place

skipped : (n : ℕ) (s : Text) → numbers_from false n s ≡ numbers_from false 0 (drop n s)
skipped zero s = refl
skipped (suc n) [] = refl
skipped (suc n) (c ∷ s) = skipped n s

module _ (c : ℕ) (s : Text) where
  abbrev rest_of : Bool → List Number → List Number
  rest_of b first = if b then first ++ numbers_from true 0 s else numbers_from false (address_len (c ∷ s) - 1) s

  digits_by : (b : Bool) → is_digit c ≡ b → numbers_from true 0 s ≡ numbers_from false 0 (drop (prefix_len is_digit s) s) →
      numbers_from true 0 (c ∷ s) ≡ numbers_from false 0 (drop (cond b (1 + prefix_len is_digit s) 0) (c ∷ s))
  digits_by true h later =
      let e : 1 + prefix_len is_digit s ≡ suc (prefix_len is_digit s) = omega arith in
      rw e (ap (λ b. rest_of b []) h ∙ later)
  digits_by false h later = ap (λ b. rest_of b []) h ∙ sym (ap (λ b. rest_of b (number_at (c ∷ s) ∷ [])) h)

  step_by : (b : Bool) (k a : ℕ) → is_digit c ≡ b → k ≡ prefix_len is_digit s → a ≡ address_len (c ∷ s) → numbers_from true 0 s ≡ numbers_from false 0 (drop k s) →
      numbers_from false 0 (c ∷ s)
      ≡ (if b then number_at (c ∷ s) ∷ [] else []) ++ numbers_from false 0 (drop (if cond b (1 + k) 0 == 0 then max a 1 else cond b (1 + k) 0) (c ∷ s))
  step_by true k a h e f later =
      let one : 1 + k ≡ suc k = omega arith in
      rw (one, not_zero k) (ap (λ b. rest_of b (number_at (c ∷ s) ∷ [])) h ∙ ap (λ z. number_at (c ∷ s) ∷ z) later)
  step_by false k a h e f later =
      let one : max a 1 ≡ suc (a - 1) = omega arith in
      rw one (ap (λ b. rest_of b (number_at (c ∷ s) ∷ [])) h ∙ ap (λ n. numbers_from false (n - 1) s) (sym f) ∙ skipped (a - 1) s)

after_digits : (s : Text) → numbers_from true 0 s ≡ numbers_from false 0 (drop (prefix_len is_digit s) s)
after_digits [] = refl
after_digits (c ∷ s) = digits_by c s (is_digit c) refl (after_digits s)

step : (c : ℕ) (s : Text) → numbers_from false 0 (c ∷ s) ≡ if_number (c ∷ s) ++ numbers_from false 0 (drop (passed_len (c ∷ s)) (c ∷ s))
step c s = step_by c s (is_digit c) (prefix_len is_digit s) (address_len (c ∷ s)) refl refl refl (after_digits s)

-- at a place of a text
pub step_at : (s : Text) (i : ℕ) → i < length s →
    numbers_from false 0 (drop i s) ≡ if_number (drop i s) ++ numbers_from false 0 (drop (i + passed_len (drop i s)) s)
step_at s i inside =
    let front : drop i s ≡ get_or s i 0 ∷ drop (i + 1) s = drop_more s i 0 inside in
    let here : numbers_from false 0 (drop i s) ≡ if_number (drop i s) ++ numbers_from false 0 (drop (passed_len (drop i s)) (drop i s)) =
    rw front (step (get_or s i 0) (drop (i + 1) s)) in
    here ∙ ap (λ z. if_number (drop i s) ++ numbers_from false 0 z) (drop-drop (passed_len (drop i s)) i s)

address_within : (s : Text) → address_len s ≤ length s
address_within s = by (scheme_len s == 0)
  where
    by : (b : Bool) → (if b then 0 else prefix_len (λ c. not (is_blank_byte c)) s) ≤ length s
    by true = omega arith
    by false = prefix_len-le-length (λ c. not (is_blank_byte c)) s

within_by : (n k a : ℕ) (b : Bool) → (k == 0) ≡ b → 1 ≤ n → k ≤ n → a ≤ n → (0 < (if b then max a 1 else k)) × ((if b then max a 1 else k) ≤ n)
within_by n k a true h some le le2 = (omega arith, omega (arith, some, le2))
within_by n k a false h some le le2 =
    let more : 0 < k = grind (arith, nat_tests) in
    (more, le)

pub passed_within : (s : Text) → 1 ≤ length s → (0 < passed_len s) × (passed_len s ≤ length s)
passed_within s some =
    within_by (length s) (prefix_len is_digit s) (address_len s) (prefix_len is_digit s == 0) refl some (prefix_len-le-length is_digit s) (address_within s)

-- ---- the number at a place

digit_there : (s : Text) → 0 < prefix_len is_digit s → (begins is_digit s ≡ true) × (is_digit (get_or s 0 0) ≡ true)
digit_there [] some = absurd (omega (arith, some))
digit_there (c ∷ s) some =
    let first = prefix_len_passes is_digit (c ∷ s) 0 0 some in
    (first, first)

none_there : (s : Text) → prefix_len is_digit s ≡ 0 → begins is_digit s ≡ false
none_there [] none = refl
none_there (c ∷ s) none = by (is_digit c) none
  where
    by : (b : Bool) → cond b (1 + prefix_len is_digit s) 0 ≡ 0 → b ≡ false
    by true h = absurd (omega (arith, h))
    by false h = refl

if_begins : (s : Text) (b : Bool) → begins is_digit s ≡ b → if_number s ≡ (if b then number_at s ∷ [] else [])
if_begins s b h = ap (λ x. if x then number_at s ∷ [] else []) h

pub number_there : (s : Text) (n : ℕ) → n ≡ prefix_len is_digit s → 0 < n → if_number s ≡ number_at s ∷ []
number_there s n e some = if_begins s true (digit_there s (omega (arith, e, some))).0

pub no_number : (s : Text) (n : ℕ) → n ≡ prefix_len is_digit s → n ≡ 0 → if_number s ≡ []
no_number s n e none = if_begins s false (none_there s (sym e ∙ none))

digit_ascii : (c : ℕ) → is_digit c ≡ true → c < 128
digit_ascii c h = grind (arith, nat_tests)

-- the text may be cut before it
pub cut_number : (s : Text) (i n : ℕ) → n ≡ prefix_len is_digit (drop i s) → 0 < n → Cuts s i
cut_number s i n e some =
    let long : n ≤ length (drop i s) = rw e (prefix_len-le-length is_digit (drop i s)) in
    let zero_more : i + 0 ≡ i = omega arith in
    let first : is_digit (get_or s i 0) ≡ true = rw zero_more at (ap is_digit (sym (get_or-drop i s 0 0)) ∙ (digit_there (drop i s) (omega (arith, e, some))).1) in
    cut_before_ascii s i (omega (arith, long, some, length-drop i s)) (digit_ascii (get_or s i 0) first)

-- ---- zeros at the front

zeros_by : (c d : ℕ) (s : Text) (b : Bool) (p : ℕ) → p ≡ prefix_len (λ x. x == 48) (d ∷ s) → without_zeros (d ∷ s) ≡ drop (zeros_len (d ∷ s)) (d ∷ s) →
    (if b then without_zeros (d ∷ s) else c ∷ d ∷ s) ≡ drop (min (cond b (1 + p) 0) (length (c ∷ d ∷ s) - 1)) (c ∷ d ∷ s)
zeros_by c d s true p e later =
    let one : min (1 + p) (length (c ∷ d ∷ s) - 1) ≡ suc (min p (length (d ∷ s) - 1)) = omega arith in
    rw one (later ∙ ap (λ n. drop (min n (length (d ∷ s) - 1)) (d ∷ s)) (sym e))
zeros_by c d s false p e later =
    let none : min 0 (length (c ∷ d ∷ s) - 1) ≡ 0 = omega arith in
    rw none refl

pub zeros_are : (s : Text) → without_zeros s ≡ drop (zeros_len s) s
zeros_are [] = refl
zeros_are (c ∷ []) =
    let none : zeros_len (c ∷ []) ≡ 0 = omega arith in
    rw none refl
zeros_are (c ∷ d ∷ s) = zeros_by c d s (c == 48) (prefix_len (λ x. x == 48) (d ∷ s)) refl (zeros_are (d ∷ s))

zero_ascii : (c : ℕ) → (c == 48) ≡ true → c < 128
zero_ascii c h = grind (arith, nat_tests)

pub cut_zeros : (s : Text) (n : ℕ) → n ≡ zeros_len s → Cuts s n
cut_zeros s n e =
    cut_by_ascii s n (omega (arith, e, prefix_len-le-length (λ x. x == 48) s))
    (λ some. zero_ascii (get_or s (n - 1) 0) (prefix_len_passes (λ x. x == 48) s (n - 1) 0 (omega (arith, e, some))))

-- ---- texts without a digit

none_from : (n : ℕ) (s : Text) → list_any is_digit s ≡ false → numbers_from false n s ≡ []
none_from n [] none = refl
none_from (suc n) (c ∷ s) none = none_from n s (or_parts (is_digit c) (list_any is_digit s) none).1
none_from zero (c ∷ s) none =
    let both = or_parts (is_digit c) (list_any is_digit s) none in
    ap (λ b. if b then (number_at (c ∷ s) ∷ []) ++ numbers_from true 0 s else numbers_from false (address_len (c ∷ s) - 1) s) both.0
    ∙ none_from (address_len (c ∷ s) - 1) s both.1

parts_by : (part : Text) (c : ℕ) (s : Text) (b : Bool) → list_any is_digit part ≡ false → flat_map (numbers_from false 0) (parts_after (part ++ c ∷ []) 0 s) ≡ [] →
    flat_map (numbers_from false 0) (parts_after [] (tag_len (tag_at (c ∷ s)) - 1) s) ≡ [] →
    flat_map (numbers_from false 0) (if b then parts_after (part ++ c ∷ []) 0 s else part ∷ parts_after [] (tag_len (tag_at (c ∷ s)) - 1) s) ≡ []
parts_by part c s true here passed tag = passed
parts_by part c s false here passed tag =
    ap (λ z. z ++ flat_map (numbers_from false 0) (parts_after [] (tag_len (tag_at (c ∷ s)) - 1) s)) (none_from 0 part here) ∙ tag

none_in_parts : (part : Text) (n : ℕ) (s : Text) → list_any is_digit part ≡ false → list_any is_digit s ≡ false → flat_map (numbers_from false 0) (parts_after part n s) ≡ []
none_in_parts part n [] here none = append-nil (numbers_from false 0 part) ∙ none_from 0 part here
none_in_parts part (suc n) (c ∷ s) here none = none_in_parts part n s here (or_parts (is_digit c) (list_any is_digit s) none).1
none_in_parts part zero (c ∷ s) here none =
    let both = or_parts (is_digit c) (list_any is_digit s) none in
    let more : list_any is_digit (part ++ c ∷ []) ≡ false =
    list_any-append is_digit part (c ∷ []) ∙ or_from (list_any is_digit part) (is_digit c || false) here (or_from (is_digit c) false both.0 refl) in
    parts_by part c s (tag_len (tag_at (c ∷ s)) == 0) here (none_in_parts (part ++ c ∷ []) 0 s more both.1) (none_in_parts [] (tag_len (tag_at (c ∷ s)) - 1) s refl both.1)

pub none_in : (s : Text) → list_any is_digit s ≡ false → numbers_in s ≡ []
none_in s none = none_in_parts [] 0 s refl none

-- ---- beside a reference without numbers

never : (b : Bool) → (b && false) ≡ false
never true = refl
never false = refl

pub nothing_beside : (texts others : List Text) → numbers others ≡ [] → numbers_beside texts others ≡ []
nothing_beside texts others none =
    let mine = numbers texts in
    ap (λ ns. numbers_between mine (digits_of mine) (digits_of ns)) none
    ∙ ap (λ b. if b then first_gone [] mine [] else []) (never (0 == length (without (digits_of mine) [])))
