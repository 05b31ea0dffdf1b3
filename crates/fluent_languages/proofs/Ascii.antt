-- The parts of a tag are ASCII, and so are its variants with the separators before them.
use Rattle.std.proofs.Common.{◌≡◌, ℕ, zero, suc, Bool, true, false, ◌<◌, ◌&&◌, ◌||◌, ◌++◌, [], ◌∷◌, List, refl, sym, subst, arith, length, take, drop}
use Rattle.std.proofs.lemmas.Bool.{and_from, and_parts, eqb-true, leb-true}
use Rattle.std.proofs.lemmas.List.{get_or_past}
use Rattle.std.specs.Prelude.{if◌then◌else◌, ◌==◌}
use Rattle.std.specs.Char.{is_ascii_alphabetic, is_ascii_alphanumeric, is_ascii_digit}
use Rattle.std.specs.Int.{is_in_range}
use Rattle.std.specs.Str.{IsAscii}
use Rattle.fluent_languages.specs.Tags.{Text, all_of, follows_part, is_language, is_region, is_script, is_separator, is_variant, more_parts, onto, parts, taken}

either : {X : Type 0} (a b : Bool) → (a ≡ true → X) → (b ≡ true → X) → (a || b) ≡ true → X
either true b f g e = f refl
either false b f g e = g e

in_range : (low high byte : ℕ) → high < 128 → is_in_range low high byte ≡ true → byte < 128
in_range low high byte h e = omega (arith, h, leb-true byte high (and_parts _ _ e).1)

letter : (byte : ℕ) → is_ascii_alphabetic byte ≡ true → byte < 128
letter byte = either _ _ (in_range 65 90 byte (omega arith)) (in_range 97 122 byte (omega arith))

digit : (byte : ℕ) → is_ascii_digit byte ≡ true → byte < 128
digit byte = in_range 48 57 byte (omega arith)

letter_or_digit : (byte : ℕ) → is_ascii_alphanumeric byte ≡ true → byte < 128
letter_or_digit byte =
    either _ _ (either _ _ (in_range 48 57 byte (omega arith)) (in_range 65 90 byte (omega arith))) (in_range 97 122 byte (omega arith))

separator : (byte : ℕ) → is_separator byte ≡ true → byte < 128
separator byte = either _ _ (λ e. omega (arith, eqb-true byte 45 e)) (λ e. omega (arith, eqb-true byte 95 e))

none : IsAscii []
none i = subst (λ x. x < 128) (sym (get_or_past [] i 0 (omega arith))) (omega arith)

one_more : (byte : ℕ) (text : Text) → byte < 128 → IsAscii text → IsAscii (byte ∷ text)
one_more byte text h t zero = h
one_more byte text h t (suc i) = t i

all_are : (test : ℕ → Bool) → ((byte : ℕ) → test byte ≡ true → byte < 128) → (part : Text) → all_of test part ≡ true → IsAscii part
all_are test low [] e = none
all_are test low (byte ∷ part) e =
    let both = and_parts (test byte) (all_of test part) e in
    one_more byte part (low byte both.0) (all_are test low part both.1)

pub language_is_ascii : (part : Text) → is_language part ≡ true → IsAscii part
language_is_ascii part e = all_are is_ascii_alphabetic letter part (and_parts _ _ e).1

script_part : (part : Text) → is_script part ≡ true → IsAscii part
script_part part e = all_are is_ascii_alphabetic letter part (and_parts _ _ e).1

region_part : (part : Text) → is_region part ≡ true → IsAscii part
region_part part =
    either {X = IsAscii part} (length part == 2 && all_of is_ascii_alphabetic part) (length part == 3 && all_of is_ascii_digit part)
    (λ e. all_are is_ascii_alphabetic letter part (and_parts (length part == 2) (all_of is_ascii_alphabetic part) e).1)
    (λ e. all_are is_ascii_digit digit part (and_parts (length part == 3) (all_of is_ascii_digit part) e).1)

if_taken : (fits : Bool) (part : Text) → (fits ≡ true → IsAscii part) → IsAscii (if fits then part else [])
if_taken true part h = h refl
if_taken false part h = none

taken_is_ascii : (test : Text → Bool) → ((part : Text) → test part ≡ true → IsAscii part) → (ps : List Text) → IsAscii (taken test ps)
taken_is_ascii test h [] = none
taken_is_ascii test h (part ∷ ps) = if_taken (test part) part (h part)

pub script_is_ascii : (ps : List Text) → IsAscii (taken is_script ps)
script_is_ascii = taken_is_ascii is_script script_part

pub region_is_ascii : (ps : List Text) → IsAscii (taken is_region ps)
region_is_ascii = taken_is_ascii is_region region_part

-- each of these parts has letters and digits alone
abbrev all_plain : List Text → Bool
all_plain = all_of (all_of is_ascii_alphanumeric)

variants_plain : (ps : List Text) → all_of is_variant ps ≡ true → all_plain ps ≡ true
variants_plain [] e = refl
variants_plain (part ∷ ps) e =
    let both = and_parts (is_variant part) (all_of is_variant ps) e in
    and_from _ _ (and_parts _ _ both.0).1 (variants_plain ps both.1)

with_byte : (byte : ℕ) (text : Text) (ps : List Text) → (all_plain ps ≡ true → IsAscii text) → all_plain (onto byte ps) ≡ true → IsAscii (byte ∷ text)
with_byte byte text [] h e = one_more byte text (letter_or_digit byte (and_parts _ _ (and_parts _ _ e).0).0) (h refl)
with_byte byte text (part ∷ ps) h e =
    let both = and_parts (is_ascii_alphanumeric byte && all_of is_ascii_alphanumeric part) (all_plain ps) e in
    let first = and_parts (is_ascii_alphanumeric byte) (all_of is_ascii_alphanumeric part) both.0 in
    one_more byte text (letter_or_digit byte first.0) (h (and_from _ _ first.1 both.1))

with_end : (is_end : Bool) (byte : ℕ) (text : Text) → is_separator byte ≡ is_end → (all_plain (parts text) ≡ true → IsAscii text)
    → all_plain (if is_end then [] ∷ parts text else onto byte (parts text)) ≡ true → IsAscii (byte ∷ text)
with_end true byte text s h e = one_more byte text (separator byte s) (h e)
with_end false byte text s h e = with_byte byte text (parts text) h e

plain_parts : (text : Text) → all_plain (parts text) ≡ true → IsAscii text
plain_parts [] e = none
plain_parts (byte ∷ text) e = with_end (is_separator byte) byte text refl (plain_parts text) e

-- variants with the separators before them
pub variants_are_ascii : (rest : Text) → follows_part rest ≡ true → all_of is_variant (more_parts rest) ≡ true → IsAscii rest
variants_are_ascii [] f e = none
variants_are_ascii (byte ∷ text) f e = one_more byte text (separator byte f) (plain_parts text (variants_plain (parts text) e))

pub rest_is_ascii : (n : ℕ) (text : Text) → IsAscii text → IsAscii (drop n text)
rest_is_ascii zero text h = h
rest_is_ascii (suc n) [] h = none
rest_is_ascii (suc n) (byte ∷ text) h = rest_is_ascii n text (λ i. h (suc i))

pub front_is_ascii : (n : ℕ) (text : Text) → IsAscii text → IsAscii (take n text)
front_is_ascii zero text h = none
front_is_ascii (suc n) [] h = none
front_is_ascii (suc n) (byte ∷ text) h = one_more byte (take n text) (h zero) (front_is_ascii n text (λ i. h (suc i)))

-- both halves of a text
pub halves_are_ascii : (one other text : Text) → one ++ other ≡ text → IsAscii text → IsAscii one × IsAscii other
halves_are_ascii [] other text e h = (none, subst IsAscii (sym e) h)
halves_are_ascii (byte ∷ one) other text e h =
    let all : IsAscii (byte ∷ one ++ other) = subst IsAscii (sym e) h in
    let more = halves_are_ascii one other (one ++ other) refl (λ i. all (suc i)) in
    (one_more byte one (all zero) more.0, more.1)
