-- The first characters of a text that spell another one.
use Rattle.std.proofs.Common.{◌≡◌, ◌∙◌, ℕ, zero, suc, ◌+◌, ◌-◌, ◌*◌, ◌/◌, ◌%◌, ◌<◌, ◌≤◌, Bool, true, false, if◌then◌else◌, [], ◌∷◌, length, drop, get_or, Option, Some, None, refl, sym, ap, add-one, drop-cons, arith}
use Rattle.std.specs.Prelude.{◌==◌, ◌&&◌, ◌||◌, nat_le}
use Rattle.std.specs.Char.{encode_utf8, is_ascii, IsScalar, InScalarRange, OutOfScalarRange}
use Rattle.std.specs.List.{list_all}
use Rattle.std.specs.Option.{MatchOption, SomeIff, unwrap_or}
use Rattle.std.proofs.lemmas.Bool.{and_parts, eqb-true, le-ltb, leb-true, lt-ltb, ltb-true}
use Rattle.std.proofs.lemmas.Bool.Decides.{nat_tests}
use Rattle.std.proofs.lemmas.List.{drop-drop, length-drop}
use Rattle.std.proofs.lemmas.List.Elements.{All-weaker}
use Rattle.std.proofs.lemmas.List.Sums.{AllPass-from_list_all}
use Rattle.std.proofs.lemmas.Str.Ascii.{IsAscii-from_all}
use Rattle.memchr.specs.Find.{IsFirstByte, is_byte}
use Rattle.fluent_grammar.specs.Words.{Text, is_between, begins_with}
use Rattle.lint_findings.specs.Encodings.{Single, Spelled, continues, is_sign, letter_of, or_later, said, sign_of, single_at, spelled_after, spelled_at, spelled_first, spelled_from, wrong_encodings}
use Rattle.lint_flaws.specs.Letters.{is_character}

-- ---- what is passed

not_true : (b : Bool) → (b ≡ true → ⊥) → b ≡ false
not_true true h = absurd (h refl)
not_true false h = refl

one_passed : (n c : ℕ) (cs : Text) → spelled_at (c ∷ cs) ≡ None → spelled_first n (c ∷ cs) ≡ spelled_first (suc n) cs
one_passed n c cs none = ap (λ o. or_later (said n o) (spelled_first (suc n) cs)) none

not_begun : (c : ℕ) (cs : Text) → (c == 0xC3) ≡ false → spelled_at (c ∷ cs) ≡ None
not_begun c cs h = ap (λ b. if b then spelled_from (c ∷ cs) (single_at (c ∷ cs)) else None) h

passed : (n : ℕ) (s : Text) (k : ℕ) → k ≤ length s → ((j : ℕ) → j < k → is_byte 0xC3 (get_or s j 0) ≡ true → ⊥) →
    spelled_first n s ≡ spelled_first (n + k) (drop k s)
passed n s zero le none =
    let e : n + 0 ≡ n = omega arith in
    rw e refl
passed n [] (suc k) le none = absurd (omega (arith, le))
passed n (c ∷ cs) (suc k) le none =
    let e : n + suc k ≡ suc n + k = omega arith in
    one_passed n c cs (not_begun c cs (not_true (is_byte 0xC3 c) (none 0 (omega arith))))
    ∙ passed (suc n) cs k (omega (arith, le)) (λ j lt. none (suc j) (omega (arith, lt))) ∙ ap (λ m. spelled_first m (drop k cs)) (sym e)

-- before the next byte 0xC3
pub next_is : (n : ℕ) (s : Text) (k : ℕ) → IsFirstByte (is_byte 0xC3) s (Some k) → spelled_first n s ≡ spelled_first (n + k) (drop k s)
next_is n s k found = passed n s k (omega (arith, found.0.high)) (λ j lt. found.0.before j (omega arith) lt)

all_passed : (n : ℕ) (s : Text) → spelled_first n (drop (length s) s) ≡ []
all_passed n [] = refl
all_passed n (c ∷ cs) = all_passed n cs

pub none_is : (n : ℕ) (s : Text) → IsFirstByte (is_byte 0xC3) s None → spelled_first n s ≡ []
none_is n s none = passed n s (length s) (omega arith) (λ j lt. none j (omega arith) lt) ∙ all_passed (n + length s) s

spelled_later : (n : ℕ) (t : Text) (y : ℕ) (ys : Text) → t ≡ y ∷ ys → spelled_at t ≡ None → spelled_first n t ≡ spelled_first (suc n) ys
spelled_later n t y ys e none = ap (spelled_first n) e ∙ one_passed n y ys (ap spelled_at (sym e) ∙ none)

-- nothing is spelled at a place
pub not_there : (s : Text) (i : ℕ) → i < length s → spelled_at (drop i s) ≡ None → spelled_first i (drop i s) ≡ spelled_first (i + 1) (drop (i + 1) s)
not_there s i inside none =
    spelled_later i (drop i s) (get_or s i 0) (drop (suc i) s) (drop-cons s i 0 inside) none ∙ rw (add-one) refl

spelled_here : (n : ℕ) (t : Text) (y : ℕ) (ys : Text) (x : Spelled) → t ≡ y ∷ ys → spelled_at t ≡ Some x → spelled_first n t ≡ said n (Some x)
spelled_here n t y ys x e found =
    ap (spelled_first n) e ∙ ap (λ o. or_later (said n o) (spelled_first (suc n) ys)) (ap spelled_at (sym e) ∙ found)

pub there : (s : Text) (i : ℕ) (x : Spelled) → i < length s → spelled_at (drop i s) ≡ Some x → spelled_first i (drop i s) ≡ said i (Some x)
there s i x inside found = spelled_here i (drop i s) (get_or s i 0) (drop (suc i) s) x (drop-cons s i 0 inside) found

-- from a place on, up to the next byte 0xC3
pub found_at : (s : Text) (i k : ℕ) → IsFirstByte (is_byte 0xC3) (drop i s) (Some k) →
    (i + k < length s) × (spelled_first i (drop i s) ≡ spelled_first (i + k) (drop (i + k) s))
found_at s i k found =
    (omega (arith, found.0.high, length-drop i s), next_is i (drop i s) k found ∙ ap (spelled_first (i + k)) (drop-drop k i s))

-- In a text of ASCII there is nothing.
pub ascii_has_none : (n : ℕ) (s : Text) → ((k : ℕ) → get_or s k 0 < 128) → spelled_first n s ≡ []
ascii_has_none n s low =
    passed n s (length s) (omega arith) (λ j lt is. let h = low j in grind (arith, nat_tests)) ∙ all_passed (n + length s) s

by_test : (s : Text) (b : Bool) → list_all is_ascii s ≡ b → (if b then [] else spelled_first 0 s) ≡ spelled_first 0 s
by_test s true all =
    let small = All-weaker (λ c. is_ascii c ≡ true) (λ c. c < 128) (λ c h. ltb-true c 128 h) s (AllPass-from_list_all is_ascii s all) in
    sym (ascii_has_none 0 s (IsAscii-from_all s small))
by_test s false all = refl

pub wrong_encodings_are : (s : Text) → wrong_encodings s ≡ spelled_first 0 s
wrong_encodings_are s = by_test s (list_all is_ascii s) refl

-- ---- what is spelled

abbrev AreCharacters : Option Spelled → Type 0
AreCharacters o = (x : Spelled) → o ≡ Some x → is_character x.bytes ≡ true

no_characters : AreCharacters None
no_characters x found = absurd cc

if_character : (b : Bool) (z : Spelled) → (b ≡ true → is_character z.bytes ≡ true) → AreCharacters (if b then Some z else None)
if_character true z is x found =
    let same : z ≡ x = cc in
    rw (← same) (is refl)
if_character false z is x found = absurd cc

letter_is : (a b : ℕ) → (continues b && (is_between 0xC3 0xC5 a || (a == 0xC2 && nat_le 0xA0 b))) ≡ true → (is_between 0xC2 0xC5 a && continues b) ≡ true
letter_is a b h = grind (arith, nat_tests)

sign_is : (a b c : ℕ) → (a == 0xE2) ≡ true → is_sign b c ≡ true → (a == 0xE2 && (is_between 0x80 0x84 b && continues c)) ≡ true
sign_is a b c first h = grind (arith, nat_tests)

letters_are : (x y : Single) → AreCharacters (letter_of x y)
letters_are x y =
    if_character (continues y.byte && (is_between 0xC3 0xC5 x.byte || (x.byte == 0xC2 && nat_le 0xA0 y.byte)))
    (record { bytes = x.byte ∷ y.byte ∷ []; len = x.len + y.len }) (letter_is x.byte y.byte)

signs_are : (x y : Single) (o : Option Single) → (x.byte == 0xE2) ≡ true → AreCharacters (sign_of x y o)
signs_are x y None first = no_characters
signs_are x y (Some z) first =
    if_character (is_sign y.byte z.byte) (record { bytes = x.byte ∷ y.byte ∷ z.byte ∷ []; len = x.len + (y.len + z.len) }) (sign_is x.byte y.byte z.byte first)

by_are : (b : Bool) (x y : Single) (o : Option Single) → (x.byte == 0xE2) ≡ b → AreCharacters (if b then sign_of x y o else letter_of x y)
by_are true x y o first = signs_are x y o first
by_are false x y o first = letters_are x y

after_are : (s : Text) (x : Single) (o : Option Single) → AreCharacters (spelled_after s x o)
after_are s x None = no_characters
after_are s x (Some y) = by_are (x.byte == 0xE2) x y (single_at (drop (x.len + y.len) s)) refl

from_are : (s : Text) (o : Option Single) → AreCharacters (spelled_from s o)
from_are s None = no_characters
from_are s (Some x) = after_are s x (single_at (drop x.len s))

at_are : (b : Bool) (s : Text) (o : Option Single) → AreCharacters (if b then spelled_from s o else None)
at_are true s o = from_are s o
at_are false s o = no_characters

-- they are the bytes of a character
pub spelled_is_character : (s : Text) (x : Spelled) → spelled_at s ≡ Some x → is_character x.bytes ≡ true
spelled_is_character s x found = at_are (begins_with 0xC3 s) s (single_at s) x found

-- ---- the character of these bytes

encoded_two : (n x y : ℕ) → 128 ≤ n → n < 2048 → 192 + n / 64 ≡ x → 128 + n % 64 ≡ y → encode_utf8 n ≡ x ∷ y ∷ []
unfolding encode_utf8
encoded_two n x y low high first second = rw (le-ltb n 128 low, lt-ltb n 2048 high, first, second) refl

encoded_three : (n x y z : ℕ) → 2048 ≤ n → n < 65536 → 224 + n / 4096 ≡ x → 128 + n / 64 % 64 ≡ y → 128 + n % 64 ≡ z → encode_utf8 n ≡ x ∷ y ∷ z ∷ []
unfolding encode_utf8
encoded_three n x y z low high first second third =
    rw (le-ltb n 128 (omega (arith, low)), le-ltb n 2048 low, lt-ltb n 65536 high, first, second, third) refl

pub between : (low high c : ℕ) → is_between low high c ≡ true → (low ≤ c) × (c ≤ high)
between low high c h =
    let both = and_parts (nat_le low c) (nat_le c high) h in
    (leb-true low c both.0, leb-true c high both.1)

pub two_bytes : (a b : ℕ) → is_character (a ∷ b ∷ []) ≡ true → (a % 32 * 64 + b % 64 < 55296) × (encode_utf8 (a % 32 * 64 + b % 64) ≡ a ∷ b ∷ [])
two_bytes a b h =
    let both = and_parts (is_between 0xC2 0xC5 a) (continues b) h in
    let first = between 0xC2 0xC5 a both.0 in
    let second = between 0x80 0xBF b both.1 in
    let x : a % 32 ≡ a - 192 = omega (arith, first) in
    let y : b % 64 ≡ b - 128 = omega (arith, second) in
    let n : a % 32 * 64 + b % 64 ≡ (a - 192) * 64 + (b - 128) = rw (x, y) refl in
    rw n (
      omega (arith, first, second),
      encoded_two ((a - 192) * 64 + (b - 128)) a b (omega (arith, first, second)) (omega (arith, first, second)) (omega (arith, first, second)) (omega (arith, first, second)),
    )

pub three_bytes : (a b c : ℕ) → is_character (a ∷ b ∷ c ∷ []) ≡ true →
    (a % 16 * 4096 + b % 64 * 64 + c % 64 < 55296) × (encode_utf8 (a % 16 * 4096 + b % 64 * 64 + c % 64) ≡ a ∷ b ∷ c ∷ [])
three_bytes a b c h =
    let parts = and_parts (a == 0xE2) (is_between 0x80 0x84 b && continues c) h in
    let both = and_parts (is_between 0x80 0x84 b) (continues c) parts.1 in
    let first : a ≡ 0xE2 = eqb-true a 0xE2 parts.0 in
    let second = between 0x80 0x84 b both.0 in
    let third = between 0x80 0xBF c both.1 in
    let y : b % 64 ≡ b - 128 = omega (arith, second) in
    let z : c % 64 ≡ c - 128 = omega (arith, third) in
    let n : a % 16 * 4096 + b % 64 * 64 + c % 64 ≡ 8192 + (b - 128) * 64 + (c - 128) = rw (first, y, z) refl in
    rw n (
      omega (arith, second, third),
      encoded_three (8192 + (b - 128) * 64 + (c - 128)) a b c (omega (arith, second, third)) (omega (arith, second, third)) (omega (arith, first, second, third))
          (omega (arith, second, third)) (omega (arith, second, third)),
    )

-- a number below the surrogates is that of a character
pub made_below : (n : ℕ) (made : Option ℕ) → MatchOption made (OutOfScalarRange n) (λ _. InScalarRange n) → SomeIff made (IsScalar n) n → n < 55296 → unwrap_or made 65533 ≡ n
made_below n None range value low = absurd (omega (arith, range))
made_below n (Some c) range value low = value.1
