-- One escape: the end of its digits, and the character that they write.
use Rattle.std.proofs.Common.{◌≡◌, ℕ, ◌+◌, ◌-◌, ◌*◌, ◌<◌, ◌≤◌, ◌^◌, min, Bool, true, false, cond, ◌&&◌, [], ◌∷◌, length, drop, get_or, refl, sym, ap, ◌∙◌, arith, Option, Some, None, encode_utf8}
use Rattle.std.specs.Prelude.{◌==◌, unwrap_or}
use Rattle.std.specs.List.{prefix_len, list_all}
use Rattle.std.specs.Str.{IsCharBoundary}
use Rattle.std.specs.Str.Parse.{AllDigits, IsNumeral, digits_value_after, digits_value, without_leading_plus}
use Rattle.std.specs.Char.{IsScalar, InScalarRange, OutOfScalarRange, digit_value}
use Rattle.std.specs.Option.{SomeIff, MatchOption}
use Rattle.std.proofs.lemmas.Bool.Decides.{nat_tests}
use Rattle.std.proofs.lemmas.List.{get_or-drop, length-drop}
use Rattle.std.proofs.lemmas.List.Sums.{prefix_len_is}
use Rattle.fluent_grammar.specs.Words.{Text, is_hex_digit}
use Rattle.fluent_grammar.specs.Escapes.{is_continuation, digits_len, hex_value, hex_number, is_scalar, replacement, character_of}

-- the end of the digits
below_lead : (b : ℕ) → is_continuation b ≡ false → 128 ≤ b → 192 ≤ b
below_lead b e low = grind (arith, nat_tests)

continues_by : (b : ℕ) (r : Bool) → is_continuation b ≡ r → ¬ (128 ≤ b → 192 ≤ b) → r ≡ true
continues_by b true e h = refl
continues_by b false e h = absurd (h (below_lead b e))

continues : (b : ℕ) → ¬ (128 ≤ b → 192 ≤ b) → is_continuation b ≡ true
continues b h = continues_by b (is_continuation b) refl h

stops : (b : ℕ) → (128 ≤ b → 192 ≤ b) → is_continuation b ≡ false
stops b h = grind (arith, nat_tests)

pub digits_end : (count : ℕ) (s : Text) (n r : ℕ) → n ≡ min count (length s) → n ≤ r → IsCharBoundary s r → ((i : ℕ) → n ≤ i → i < r → ¬ IsCharBoundary s i) → r ≡ digits_len count s
digits_end count s n r e low at before =
    let inside : n ≤ length s = omega arith in
    let is = prefix_len_is is_continuation (drop n s) (r - n) 0 (omega (arith, length-drop n s))
    (λ k h. rw (get_or-drop n s k 0) (continues (get_or s (n + k) 0) (λ f. before (n + k) (omega arith) (omega arith) (omega arith, λ _. f))))
    (λ h. let there : n + (r - n) ≡ r = omega arith in rw (get_or-drop n s (r - n) 0, there) (stops (get_or s r 0) (at.1 (omega (arith, length-drop n s))))) in
    omega (arith, is) ∙ ap (λ (k : ℕ). k + prefix_len is_continuation (drop k s)) e

-- the character
scalar_in : (c : ℕ) → InScalarRange c → is_scalar c ≡ true
scalar_in c h = grind (arith, nat_tests)

scalar_out : (c : ℕ) → OutOfScalarRange c → is_scalar c ≡ false
scalar_out c h = grind (arith, nat_tests)

large_out : (c : ℕ) → ¬ (c < 2 ^ 32) → is_scalar c ≡ false
large_out c h = grind (arith, nat_tests)

same_len : (m n : ℕ) → m ≡ n → (m == n) ≡ true
same_len m n h = grind (arith, nat_tests)

-- the number
digit_is : (c : ℕ) → is_hex_digit c ≡ true → digit_value c ≡ hex_value c
digit_is c h = grind (arith, nat_tests)

digit_below : (c : ℕ) → is_hex_digit c ≡ true → digit_value c < 16
digit_below c h = grind (arith, nat_tests)

head_of : (p q : Bool) → (p && q) ≡ true → p ≡ true
head_of true q e = refl
head_of false q e = absurd cc

tail_of : (p q : Bool) → (p && q) ≡ true → q ≡ true
tail_of true q e = e
tail_of false q e = absurd cc

pub numeral : (ds : Text) → list_all is_hex_digit ds ≡ true → AllDigits 16 ds
numeral [] h = tt
numeral (c ∷ cs) h = (digit_below c (head_of _ _ h), numeral cs (tail_of _ _ h))

value_after : (n : ℕ) (ds : Text) → list_all is_hex_digit ds ≡ true → digits_value_after 16 n ds ≡ hex_number n ds
value_after n [] h = refl
value_after n (c ∷ cs) h =
    let e : n * 16 + digit_value c ≡ 16 * n + hex_value c = omega (arith, digit_is c (head_of _ _ h)) in
    ap (λ (k : ℕ). digits_value_after 16 k cs) e ∙ value_after (16 * n + hex_value c) cs (tail_of _ _ h)

not_plus : (c : ℕ) → is_hex_digit c ≡ true → (c == 43) ≡ false
not_plus c h = grind (arith, nat_tests)

pub no_plus : (ds : Text) → list_all is_hex_digit ds ≡ true → without_leading_plus ds ≡ ds
no_plus [] h = refl
no_plus (c ∷ cs) h = rw (not_plus c (head_of _ _ h)) refl

pub value_is : (ds : Text) → list_all is_hex_digit ds ≡ true → digits_value 16 (without_leading_plus ds) ≡ hex_number 0 ds
value_is ds h = ap (digits_value 16) (no_plus ds h) ∙ value_after 0 ds h

chosen : (count : ℕ) (ds : Text) → length ds ≡ count → list_all is_hex_digit ds ≡ true → character_of count ds ≡ cond (is_scalar (hex_number 0 ds)) (encode_utf8 (hex_number 0 ds)) replacement
chosen count ds e h = rw (same_len (length ds) count e, h) refl

pub character_read : (count : ℕ) (ds : Text) (code : ℕ) (made : Option ℕ) → length ds ≡ count → list_all is_hex_digit ds ≡ true → code ≡ hex_number 0 ds
    → SomeIff made (IsScalar code) code → MatchOption made (OutOfScalarRange code) (λ _. InScalarRange code) → encode_utf8 (unwrap_or made 65533) ≡ character_of count ds
character_read count ds code None e h is value range = sym (chosen count ds e h ∙ rw (← is) (rw (scalar_out code range) refl))
character_read count ds code (Some c) e h is value range = ap encode_utf8 value.1 ∙ sym (chosen count ds e h ∙ rw (← is) (rw (scalar_in code range) refl))

pub character_too_large : (count : ℕ) (ds : Text) → 0 < count → length ds ≡ count → list_all is_hex_digit ds ≡ true
    → ¬ (IsNumeral 16 (without_leading_plus ds) × (digits_value 16 (without_leading_plus ds) < 2 ^ 32)) → encode_utf8 65533 ≡ character_of count ds
character_too_large count ds some e h large =
    let numeral_there : IsNumeral 16 (without_leading_plus ds) = rw (no_plus ds h) (omega arith, numeral ds h) in
    let beyond : is_scalar (hex_number 0 ds) ≡ false = large_out (hex_number 0 ds) (λ l. large (numeral_there, rw (value_is ds h) l)) in
    sym (chosen count ds e h ∙ rw beyond refl)
