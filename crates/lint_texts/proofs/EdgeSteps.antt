-- The last character of a text, and two spaces in it.
use Rattle.std.proofs.Common.{◌≡◌, ◌∙◌, ℕ, zero, suc, ◌+◌, ◌<◌, Bool, true, false, ◌&&◌, if◌then◌else◌, [], ◌∷◌, length, drop, get_or, Some, refl, ap, sym, arith}
use Rattle.std.specs.List.{list_all}
use Rattle.std.proofs.lemmas.Bool.{and_from, and_left, and_parts, and_right}
use Rattle.std.proofs.lemmas.Bool.Decides.{nat_tests}
use Rattle.std.proofs.lemmas.List.{drop_more}
use Rattle.fluent_grammar.specs.Words.{Text, begins_with, is_between, space}
use Rattle.fluent_tokens.specs.Counted.{Cuts}
use Rattle.fluent_tokens.proofs.Counted.{cut_before_ascii}
use Rattle.lint_findings.specs.Edges.{last_character}
use Rattle.lint_findings.specs.Typing.{begins_spaces, spaces_after}

-- ---- the last character

-- all of these bytes belong to the character before them
abbrev pub AllContinue : Text → Type 0
AllContinue s = list_all (is_between 0x80 0xBF) s ≡ true

not_all : (s : Text) (i : ℕ) → i < length s → is_between 0x80 0xBF (get_or s i 0) ≡ false → list_all (is_between 0x80 0xBF) s ≡ false
not_all [] i inside h = absurd (omega (arith, inside))
not_all (c ∷ s) zero inside h = and_left (is_between 0x80 0xBF c) (list_all (is_between 0x80 0xBF) s) h
not_all (c ∷ s) (suc i) inside h = and_right (is_between 0x80 0xBF c) (list_all (is_between 0x80 0xBF) s) (not_all s i (omega (arith, inside)) h)

pub last_is : (s : Text) (i : ℕ) → i < length s → is_between 0x80 0xBF (get_or s i 0) ≡ false → AllContinue (drop (i + 1) s) → last_character s ≡ drop i s
last_is [] i inside h rest = absurd (omega (arith, inside))
last_is (c ∷ s) zero inside h rest = ap (λ b. if b then c ∷ s else last_character s) rest
last_is (c ∷ s) (suc i) inside h rest =
    let e : suc i + 1 ≡ suc (i + 1) = omega arith in
    ap (λ b. if b then c ∷ s else last_character s) (not_all s i (omega (arith, inside)) h)
    ∙ last_is s i (omega (arith, inside)) h (rw e at rest)

pub all_is : (s : Text) → AllContinue s → last_character s ≡ s
all_is [] h = refl
all_is (c ∷ s) h =
    ap (λ b. if b then c ∷ s else last_character s) (and_parts (is_between 0x80 0xBF c) (list_all (is_between 0x80 0xBF) s) h).1

-- one byte further to the front
pub one_more : (s : Text) (i : ℕ) → i < length s → is_between 0x80 0xBF (get_or s i 0) ≡ true → AllContinue (drop (i + 1) s) → AllContinue (drop i s)
one_more s i inside h rest =
    ap (list_all (is_between 0x80 0xBF)) (drop_more s i 0 inside)
    ∙ and_from (is_between 0x80 0xBF (get_or s i 0)) (list_all (is_between 0x80 0xBF) (drop (i + 1) s)) h rest

-- ---- two spaces

after_by : (passes : ℕ → Bool) (before : Bool) (t : Text) (y : ℕ) (ys : Text) → t ≡ y ∷ ys →
    spaces_after passes before t ≡ (if before && begins_spaces t then Some t else spaces_after passes (passes y) ys)
after_by passes before t y ys e = rw e refl

pub spaces_next : (passes : ℕ → Bool) (s : Text) (i : ℕ) (before : Bool) → i < length s → (before && begins_spaces (drop i s)) ≡ false →
    spaces_after passes before (drop i s) ≡ spaces_after passes (passes (get_or s i 0)) (drop (i + 1) s)
spaces_next passes s i before inside h =
    after_by passes before (drop i s) (get_or s i 0) (drop (i + 1) s) (drop_more s i 0 inside)
    ∙ ap (λ b. if b then Some (drop i s) else spaces_after passes (passes (get_or s i 0)) (drop (i + 1) s)) h

pub spaces_here : (passes : ℕ → Bool) (s : Text) (i : ℕ) (before : Bool) → i < length s → (before && begins_spaces (drop i s)) ≡ true →
    spaces_after passes before (drop i s) ≡ Some (drop i s)
spaces_here passes s i before inside h =
    after_by passes before (drop i s) (get_or s i 0) (drop (i + 1) s) (drop_more s i 0 inside)
    ∙ ap (λ b. if b then Some (drop i s) else spaces_after passes (passes (get_or s i 0)) (drop (i + 1) s)) h

space_first : (t : Text) → begins_spaces t ≡ true → (0 < length t) × (get_or t 0 0 < 128)
space_first [] h = absurd cc
space_first (c ∷ t) h =
    let first : begins_with space (c ∷ t) ≡ true = (and_parts (begins_with space (c ∷ t)) _ h).0 in
    (omega arith, grind (arith, nat_tests))

-- the text may be cut before them
pub cut_spaces : (s : Text) (i : ℕ) → i < length s → begins_spaces (drop i s) ≡ true → Cuts s i
cut_spaces s i inside h =
    let front : drop i s ≡ get_or s i 0 ∷ drop (i + 1) s = drop_more s i 0 inside in
    cut_before_ascii s i inside (space_first (get_or s i 0 ∷ drop (i + 1) s) (ap begins_spaces (sym front) ∙ h)).1
