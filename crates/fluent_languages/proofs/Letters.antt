-- A text's letters in another case, character by character.
use Rattle.std.proofs.Common.{◌≡◌, ℕ, suc, ◌<◌, ◌≤◌, ◌++◌, [], ◌∷◌, refl, sym, ap, ap₂, ◌∙◌, arith, map, length, get_or, encode_utf8, append-nil, inl, inr}
use Rattle.std.proofs.lemmas.Bool.{cases_lt}
use Rattle.std.proofs.lemmas.List.{map-append}
use Rattle.std.proofs.lemmas.Str.{encode_ascii, inside_one, length-encode, len_utf8_bounds}
use Rattle.std.proofs.lemmas.Str.Ascii.{lowercase_ascii, lowercase_is, uppercase_ascii, uppercase_is}
use Rattle.std.specs.Char.{to_ascii_lowercase, to_ascii_uppercase}
use Rattle.fluent_languages.specs.Canonical.{capital, dashed}
use Rattle.fluent_languages.specs.Tags.{Text, small}

-- no byte is ASCII
abbrev IsHigh : Text → Type 0
IsHigh text = (k : ℕ) → k < length text → 128 ≤ get_or text k 0

high_bytes : (c : ℕ) → 128 ≤ c → IsHigh (encode_utf8 c)
high_bytes c high k l = elim (cases_lt (get_or (encode_utf8 c) k 0) 128) [
  | inl low ↦ absurd (omega (arith, high, low, inside_one c [] (encode_utf8 c) k (sym (append-nil (encode_utf8 c))) l low))
  | inr done ↦ done
]

module _ (change : ℕ → ℕ) (low : (c : ℕ) → c < 128 → change c < 128) (high : (c : ℕ) → 128 ≤ c → change c ≡ c) where
  unchanged : (text : Text) → IsHigh text → map change text ≡ text
  unchanged [] h = refl
  unchanged (byte ∷ text) h = ap₂ (λ b t. b ∷ t) (high byte (h 0 (omega arith))) (unchanged text (λ k l. h (suc k) (omega (arith, l))))

  changed : (c : ℕ) → encode_utf8 (change c) ≡ map change (encode_utf8 c)
  changed c = elim (cases_lt c 128) [
    | inl l ↦ encode_ascii (change c) (low c l) ∙ ap (map change) (sym (encode_ascii c l))
    | inr l ↦ ap encode_utf8 (high c l) ∙ sym (unchanged (encode_utf8 c) (high_bytes c l))
  ]

  one_letter : (letters rest : Text) (c : ℕ) → letters ≡ encode_utf8 c ++ rest → map change letters ≡ encode_utf8 (change c) ++ map change rest
  one_letter letters rest c e =
      ap (map change) e ∙ map-append change (encode_utf8 c) rest ∙ ap (λ t. t ++ map change rest) (sym (changed c))

small_high : (c : ℕ) → 128 ≤ c → to_ascii_lowercase c ≡ c
small_high c h = (lowercase_is c).2 (omega (arith, h))

pub small_letter : (letters rest : Text) (c : ℕ) → letters ≡ encode_utf8 c ++ rest → small letters ≡ encode_utf8 (to_ascii_lowercase c) ++ small rest
small_letter = one_letter to_ascii_lowercase lowercase_ascii small_high

abbrev upper : ℕ → ℕ
upper c = to_ascii_uppercase (to_ascii_lowercase c)

upper_high : (c : ℕ) → 128 ≤ c → upper c ≡ c
upper_high c h = ap to_ascii_uppercase (small_high c h) ∙ (uppercase_is c).2 (omega (arith, h))

upper_low : (c : ℕ) → c < 128 → upper c < 128
upper_low c h = uppercase_ascii (to_ascii_lowercase c) (lowercase_ascii c h)

both_ways : (text : Text) → map upper text ≡ map to_ascii_uppercase (small text)
both_ways [] = refl
both_ways (byte ∷ text) = ap (λ t. upper byte ∷ t) (both_ways text)

pub capital_letter : (letters rest : Text) (c : ℕ) → letters ≡ encode_utf8 c ++ rest
    → map to_ascii_uppercase (small letters) ≡ encode_utf8 (upper c) ++ map to_ascii_uppercase (small rest)
capital_letter letters rest c e =
    sym (both_ways letters) ∙ one_letter upper upper_low upper_high letters rest c e ∙ ap (λ t. encode_utf8 (upper c) ++ t) (both_ways rest)

-- the bytes of one character at the front, of which none is ASCII
high_front : (front rest : Text) → 0 < length front → IsHigh front → dashed (capital (small (front ++ rest))) ≡ 45 ∷ front ++ small rest
high_front [] rest l h = absurd (omega (arith, l))
high_front (byte ∷ front) rest l h =
    let shorter = map-append to_ascii_lowercase front rest ∙ ap (λ t. t ++ small rest) (unchanged to_ascii_lowercase lowercase_ascii small_high front (λ k l. h (suc k) (omega (arith, l)))) in
    ap₂ (λ b t. 45 ∷ b ∷ t) (upper_high byte (h 0 (omega arith))) shorter

pub capital_at_front : (letters rest : Text) (c : ℕ) → letters ≡ encode_utf8 c ++ rest
    → dashed (capital (small letters)) ≡ 45 ∷ encode_utf8 (upper c) ++ small rest
capital_at_front letters rest c e = elim (cases_lt c 128) [
  | inl l ↦ ap (λ t. dashed (capital (small t))) (e ∙ ap (λ t. t ++ rest) (encode_ascii c l))
      ∙ ap (λ t. 45 ∷ t ++ small rest) (sym (encode_ascii (upper c) (upper_low c l)))
  | inr l ↦ ap (λ t. dashed (capital (small t))) e
      ∙ high_front (encode_utf8 c) rest (omega (arith, length-encode c, (len_utf8_bounds c).0)) (high_bytes c l)
      ∙ ap (λ d. 45 ∷ encode_utf8 d ++ small rest) (sym (upper_high c l))
]
