-- What a text lacks that lacks a byte, or two spaces.
use Rattle.std.proofs.Common.{◌≡◌, ◌∙◌, ℕ, zero, suc, ◌<◌, Bool, true, false, ◌&&◌, ◌||◌, if◌then◌else◌, not, List, [], ◌∷◌, ◌++◌, length, take, Some, None, refl, ap, sym, arith}
use Rattle.std.specs.Prelude.{◌==◌, ◌-◌, is_some}
use Rattle.std.specs.List.{flat_map, list_all}
use Rattle.std.specs.Str.{bytes_eq}
use Rattle.std.proofs.lemmas.Bool.{and_from, and_parts, false_from_ne_true}
use Rattle.std.proofs.lemmas.Bool.Decides.{nat_tests}
use Rattle.memchr.specs.Find.{IsFirstByte, is_byte}
use Rattle.fluent_grammar.specs.Words.{Text, begins_with, space}
use Rattle.lint_findings.specs.Numbers.{parts_after, plain_parts, tag_len}
use Rattle.lint_findings.specs.Tags.{tag_at}
use Rattle.lint_findings.specs.Typing.{begins_spaces, curly_ends, curly_from, from_text, has_curly, has_text, spaces_after}
use Rattle.lint_markup.proofs.Signs.{PassesOver, none_found}
use Rattle.lint_texts.specs.Quotes.{has_ellipsis}
use Rattle.lint_texts.specs.Spaces.{has_two_spaces}
use Rattle.lint_texts.proofs.QuoteSteps.{passes}

-- ---- the first byte of a part

other_front : (p : ℕ) (part : Text) (c : ℕ) (s : Text) → (c == p) ≡ false → bytes_eq (take (length (p ∷ part)) (c ∷ s)) (p ∷ part) ≡ false
other_front p part c s h = ap (λ b. b && bytes_eq (take (length part) s) part) h

passes_part : (p : ℕ) (part : Text) → PassesOver (is_byte p) (from_text (p ∷ part))
passes_part p part c s h = ap (λ b. if b then Some (c ∷ s) else from_text (p ∷ part) s) (other_front p part c s h)

lacks_part : (p : ℕ) (part s : Text) → IsFirstByte (is_byte p) s None → has_text (p ∷ part) s ≡ false
lacks_part p part s none = ap is_some (none_found (is_byte p) (from_text (p ∷ part)) (passes_part p part) s none)

pub lacks_ellipsis : (s : Text) → IsFirstByte (is_byte 0xE2) s None → has_ellipsis s ≡ false
lacks_ellipsis s none = lacks_part 0xE2 (0x80 ∷ 0xA6 ∷ []) s none

pub lacks_quotes : (s : Text) → IsFirstByte (is_byte 0xE2) s None → has_curly s ≡ false
lacks_quotes s none =
    ap (λ b. b || has_text (0xE2 ∷ 0x80 ∷ 0x9D ∷ []) s) (lacks_part 0xE2 (0x80 ∷ 0x9C ∷ []) s none)
    ∙ lacks_part 0xE2 (0x80 ∷ 0x9D ∷ []) s none

-- ---- curly quotes

-- no byte of a text begins a curly quote
abbrev lacks : Text → Bool
lacks s = list_all (λ c. not (c == 0xE2)) s

other : (c : ℕ) → not (c == 0xE2) ≡ true → (c == 0xE2) ≡ false
other c h = grind (arith, nat_tests)

all_lack : (s : Text) → IsFirstByte (is_byte 0xE2) s None → lacks s ≡ true
all_lack [] none = refl
all_lack (c ∷ s) none =
    and_from (not (c == 0xE2)) (lacks s)
    (ap not (false_from_ne_true (c == 0xE2) (none 0 (omega arith) (omega arith))))
    (all_lack s (λ k low high. none (suc k) (omega arith) (omega (arith, high))))

none_curly : (s : Text) → lacks s ≡ true → curly_from s ≡ []
none_curly [] h = refl
none_curly (c ∷ s) h =
    let both = and_parts (not (c == 0xE2)) (lacks s) h in
    passes c s (other c both.0) ∙ none_curly s both.1

one_more : (part : Text) (c : ℕ) → lacks part ≡ true → not (c == 0xE2) ≡ true → lacks (part ++ c ∷ []) ≡ true
one_more [] c h other = and_from (not (c == 0xE2)) true other refl
one_more (d ∷ part) c h other =
    let both = and_parts (not (d == 0xE2)) (lacks part) h in
    and_from (not (d == 0xE2)) (lacks (part ++ c ∷ [])) both.0 (one_more part c both.1 other)

-- of parts that are the one or the other
either : (b : Bool) (more : List Text) (part : Text) (later : List Text) → flat_map curly_from more ≡ [] → curly_from part ≡ [] → flat_map curly_from later ≡ [] →
    flat_map curly_from (if b then more else part ∷ later) ≡ []
either true more part later is none rest = is
either false more part later is none rest = ap (λ z. z ++ flat_map curly_from later) none ∙ rest

none_in_parts : (part : Text) (n : ℕ) (s : Text) → lacks part ≡ true → lacks s ≡ true → flat_map curly_from (parts_after part n s) ≡ []
none_in_parts part n [] here h = ap (λ z. z ++ []) (none_curly part here)
none_in_parts part (suc n) (c ∷ s) here h = none_in_parts part n s here (and_parts (not (c == 0xE2)) (lacks s) h).1
none_in_parts part zero (c ∷ s) here h =
    let both = and_parts (not (c == 0xE2)) (lacks s) h in
    let len = tag_len (tag_at (c ∷ s)) in
    either (len == 0) (parts_after (part ++ c ∷ []) zero s) part (parts_after [] (len - 1) s)
    (none_in_parts (part ++ c ∷ []) zero s (one_more part c here both.0) both.1) (none_curly part here) (none_in_parts [] (len - 1) s refl both.1)

pub lacks_curly : (s : Text) → IsFirstByte (is_byte 0xE2) s None → curly_ends s ≡ []
lacks_curly s none = none_in_parts [] 0 s refl (all_lack s none)

-- ---- two spaces

left_false : (a b : Bool) → (a || b) ≡ false → a ≡ false
left_false false b h = refl
left_false true b h = absurd cc

right_false : (a b : Bool) → (a || b) ≡ false → b ≡ false
right_false false b h = h
right_false true b h = absurd cc

one_front : (is : Bool) (s : Text) → has_two_spaces is s ≡ false → (is && begins_with space s) ≡ false
one_front false s h = refl
one_front true [] h = refl
one_front true (d ∷ s) h = left_false (d == space) (has_two_spaces (d == space) s) h

and_later : (a b d : Bool) → (a && b) ≡ false → (a && (b && d)) ≡ false
and_later false b d h = refl
and_later true b d h = ap (λ x. x && d) h

both_false : (a b : Bool) → b ≡ false → (a && b) ≡ false
both_false false b h = refl
both_false true b h = h

pub lacks_spaces : (counts : ℕ → Bool) (before is : Bool) (s : Text) → has_two_spaces is s ≡ false → spaces_after counts before s ≡ None
lacks_spaces counts before is [] h = refl
lacks_spaces counts before is (c ∷ s) h =
    let rest = right_false (is && c == space) (has_two_spaces (c == space) s) h in
    let front : begins_spaces (c ∷ s) ≡ false = and_later (c == space) (begins_with space s) _ (one_front (c == space) s rest) in
    ap (λ b. if b then Some (c ∷ s) else spaces_after counts (counts c) s) (both_false before (begins_spaces (c ∷ s)) front)
    ∙ lacks_spaces counts (counts c) (c == space) s rest
