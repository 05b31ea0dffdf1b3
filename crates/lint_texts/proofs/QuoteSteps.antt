-- Curly quotes in a text, one after the other.
use Rattle.std.proofs.Common.{◌≡◌, ◌∙◌, ℕ, ◌+◌, ◌<◌, Bool, true, false, ◌&&◌, ◌||◌, if◌then◌else◌, List, [], ◌∷◌, ◌++◌, length, drop, get_or, Option, Some, None, refl, ap, sym, arith, length-drop, get_or-drop}
use Rattle.std.specs.Prelude.{◌==◌, is_some, option_map}
use Rattle.std.specs.List.{flat_map, list_any}
use Rattle.std.specs.Option.{option_or}
use Rattle.std.proofs.lemmas.Bool.Decides.{nat_tests}
use Rattle.std.proofs.lemmas.List.{drop-drop, drop_more}
use Rattle.memchr.specs.Find.{IsFirstByte, is_byte}
use Rattle.fluent_grammar.specs.Words.{Text}
use Rattle.fluent_tokens.specs.Counted.{Cuts}
use Rattle.lint_findings.specs.Letters.{begins_three}
use Rattle.lint_findings.specs.Numbers.{plain_parts}
use Rattle.lint_findings.specs.Typing.{curly_at, curly_ends, curly_from, first_found, first_of, has_inches, is_even, odd_quote}
use Rattle.lint_markup.proofs.Signs.{PassesOver, next_found, none_found}
use Rattle.lint_texts.specs.Quotes.{begins_inches, if_curly}

-- ---- from byte to byte

other_first : (c : ℕ) (s : Text) (z : ℕ) → (c == 0xE2) ≡ false → begins_three 0xE2 0x80 z (c ∷ s) ≡ false
other_first c [] z h = refl
other_first c (d ∷ []) z h = refl
other_first c (d ∷ x ∷ s) z h = ap (λ b. b && (d == 0x80 && x == z)) h

pub passes : PassesOver (is_byte 0xE2) curly_from
passes c s h =
    ap (λ b. (if b || (begins_three 0xE2 0x80 0x9D (c ∷ s) || begins_three 0xE2 0x80 0x9E (c ∷ s)) then (c ∷ s) ∷ [] else []) ++ curly_from s) (other_first c s 0x9C h)
    ∙ ap (λ b. (if b || begins_three 0xE2 0x80 0x9E (c ∷ s) then (c ∷ s) ∷ [] else []) ++ curly_from s) (other_first c s 0x9D h)
    ∙ ap (λ b. (if b then (c ∷ s) ∷ [] else []) ++ curly_from s) (other_first c s 0x9E h)

pub next_quote : (s : Text) (i k : ℕ) → IsFirstByte (is_byte 0xE2) (drop i s) (Some k) →
    (i + k < length s) × (curly_from (drop i s) ≡ if_curly (drop (i + k) s) ++ curly_from (drop (i + k + 1) s))
next_quote s i k found =
    let inside : i + k < length s = omega (arith, found.0.high, length-drop i s) in (
      inside,
      next_found (is_byte 0xE2) curly_from passes (drop i s) k found ∙ ap curly_from (drop-drop k i s) ∙ rw (drop_more s (i + k) 0 inside) refl,
    )

pub no_quote : (s : Text) → IsFirstByte (is_byte 0xE2) s None → curly_from s ≡ []
no_quote = none_found (is_byte 0xE2) curly_from passes

lead : (c : ℕ) → is_byte 0xE2 c ≡ true → c ≡ 0xE2
lead c h = grind (arith, nat_tests)

-- the text may be cut before this byte
pub cut_quote : (s : Text) (i k : ℕ) → IsFirstByte (is_byte 0xE2) (drop i s) (Some k) → Cuts s (i + k)
cut_quote s i k found =
    let inside : i + k < length s = omega (arith, found.0.high, length-drop i s) in
    let first : get_or s (i + k) 0 ≡ 0xE2 = sym (get_or-drop i s k 0) ∙ lead (get_or (drop i s) k 0) found.1 in
    record { within = omega (arith, inside); boundary = λ _. (omega (arith, inside), λ _ high. omega (arith, first)) }

-- ---- inches

inches_next : (c : ℕ) (s : Text) → has_inches (c ∷ s) ≡ (begins_inches (c ∷ s) || has_inches s)
inches_next c s = refl

pub inches_passed : (s : Text) (i : ℕ) → i < length s → begins_inches (drop i s) ≡ false → has_inches (drop (i + 1) s) ≡ has_inches (drop i s)
inches_passed s i inside h =
    let front : drop i s ≡ get_or s i 0 ∷ drop (i + 1) s = drop_more s i 0 inside in
    sym (ap has_inches front ∙ ap (λ b. b || has_inches (drop (i + 1) s)) (ap begins_inches (sym front) ∙ h))

pub inches_here : (s : Text) (i : ℕ) → i < length s → begins_inches (drop i s) ≡ true → has_inches (drop i s) ≡ true
inches_here s i inside h =
    let front : drop i s ≡ get_or s i 0 ∷ drop (i + 1) s = drop_more s i 0 inside in
    ap has_inches front ∙ ap (λ b. b || has_inches (drop (i + 1) s)) (ap begins_inches (sym front) ∙ h)

-- ---- a quote without a partner is one

abbrev AllCurly : List Text → Type 0
AllCurly ends = (s : Text) → first_of ends ≡ Some s → curly_at s ≡ true

if_curly_first : (c : ℕ) (s : Text) (b : Bool) (later : List Text) → curly_at (c ∷ s) ≡ b → AllCurly later → AllCurly ((if b then (c ∷ s) ∷ [] else []) ++ later)
if_curly_first c s true later is there t found =
    let same : c ∷ s ≡ t = cc in
    ap curly_at (sym same) ∙ is
if_curly_first c s false later is there t found = there t found

from_curly : (s : Text) → AllCurly (curly_from s)
from_curly [] t found = absurd cc
from_curly (c ∷ s) t found = if_curly_first c s (curly_at (c ∷ s)) (curly_from s) refl (from_curly s) t found

both_curly : (xs ys : List Text) → AllCurly xs → AllCurly ys → AllCurly (xs ++ ys)
both_curly [] ys first second t found = second t found
both_curly (x ∷ xs) ys first second t found = first t found

ends_curly : (parts : List Text) → AllCurly (flat_map curly_from parts)
ends_curly [] t found = absurd cc
ends_curly (s ∷ parts) t found = both_curly (curly_from s) (flat_map curly_from parts) (from_curly s) (ends_curly parts) t found

odd_by : (b : Bool) (ends : List Text) (t : Text) → AllCurly ends → (if b then None else first_of ends) ≡ Some t → curly_at t ≡ true
odd_by true ends t are found = absurd cc
odd_by false ends t are found = are t found

found_by : (o later : Option Text) (t : Text) → (o ≡ Some t → curly_at t ≡ true) → (later ≡ Some t → curly_at t ≡ true) → option_or o later ≡ Some t → curly_at t ≡ true
found_by None later t here there found = there found
found_by (Some s) later t here there found = here found

pub odd_curly : (texts : List Text) (t : Text) → first_found odd_quote texts ≡ Some t → curly_at t ≡ true
odd_curly [] t found = absurd cc
odd_curly (s ∷ texts) t found =
    found_by (odd_quote s) (first_found odd_quote texts) t
    (odd_by (is_even (length (curly_ends s)) || has_inches s) (curly_ends s) t (ends_curly (plain_parts s))) (odd_curly texts t) found

-- ---- whether something is found

either_some : {A : Type 0} (x y : Option A) → is_some (option_or x y) ≡ (is_some x || is_some y)
either_some None y = refl
either_some (Some a) y = refl

pub found_some : (find : Text → Option Text) (texts : List Text) → is_some (first_found find texts) ≡ list_any (λ s. is_some (find s)) texts
found_some find [] = refl
found_some find (s ∷ texts) = either_some (find s) (first_found find texts) ∙ ap (λ b. is_some (find s) || b) (found_some find texts)

pub mapped_some : {A B : Type 0} (f : A → B) (o : Option A) → is_some (option_map f o) ≡ is_some o
mapped_some f None = refl
mapped_some f (Some a) = refl
