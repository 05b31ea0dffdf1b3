-- Placeholders, from sign to sign, and which are new.
use Rattle.std.proofs.Common.{◌≡◌, ◌∙◌, ℕ, zero, suc, ◌+◌, ◌-◌, ◌<◌, ◌≤◌, Bool, true, false, not, ◌&&◌, ◌||◌, if◌then◌else◌, List, [], ◌∷◌, ◌++◌, length, drop, get_or, Some, None, refl, ap, sym, arith, add-zero, get_or-drop, length-drop}
use Rattle.std.specs.Prelude.{◌==◌}
use Rattle.std.specs.List.{prefix_len}
use Rattle.std.proofs.lemmas.Bool.{and_parts, or_parts}
use Rattle.std.proofs.lemmas.Bool.Decides.{nat_tests}
use Rattle.std.proofs.lemmas.List.{drop_more}
use Rattle.memchr.specs.Find.{IsFirstByte, is_byte2}
use Rattle.fluent_grammar.specs.Words.{Text, begins, begins_with, close_brace, close_paren, dollar, is_among, is_between, is_digit, is_letter, open_brace, open_paren}
use Rattle.fluent_tokens.specs.Counted.{Cuts}
use Rattle.fluent_tokens.proofs.Counted.{cut_before_ascii, cut_by_ascii, cut_none}
use Rattle.lint_findings.specs.Comparison.{union}
use Rattle.lint_findings.specs.Doubts as d
use Rattle.lint_findings.specs.Placeholders.{Placeholder, braces_len, is_certain, is_kind, is_place_kind, is_placed, is_plain_kind, is_word_byte, kind_len, named_len, new_placeholders, percent, placeholder_at, placeholder_len, placeholders_in}
use Rattle.lint_markup.proofs.Signs.{PassesOver, next_found, none_found}
use Rattle.lint_texts.proofs.Named.{Same, same_added, same_more}

-- ---- from sign to sign

if_both : (a b : Bool) (x y : ℕ) → a ≡ false → b ≡ false → (if a then x else if b then y else 0) ≡ 0
if_both true b x y h k = absurd cc
if_both false true x y h k = absurd cc
if_both false false x y h k = refl

passes : PassesOver (is_byte2 37 123) placeholders_in
passes c s h =
    let both = or_parts (c == 37) (c == 123) h in
    ap (λ n. placeholder_at (c ∷ s) n ++ placeholders_in s)
    (if_both (c == percent) (c == open_brace) (if kind_len s == 0 then 0 else 1 + kind_len s) (braces_len (prefix_len is_digit s) (c ∷ s)) both.0 both.1)

pub next_sign : (s at rest : Text) (n : ℕ) → IsFirstByte (is_byte2 37 123) s (Some n) → at ≡ drop n s → rest ≡ drop 1 at →
    placeholders_in s ≡ placeholder_at at (placeholder_len at) ++ placeholders_in rest
next_sign s at rest n found here after =
    let front : drop n s ≡ get_or s n 0 ∷ drop (n + 1) s = drop_more s n 0 (omega (arith, found.0.high)) in
    let is : at ≡ get_or s n 0 ∷ drop (n + 1) s = here ∙ front in
    let left : rest ≡ drop (n + 1) s = after ∙ ap (drop 1) is in
    next_found (is_byte2 37 123) placeholders_in passes s n found
    ∙ ap placeholders_in front
    ∙ ap (λ (z : Text). placeholder_at z (placeholder_len z) ++ placeholders_in (drop (n + 1) s)) (sym is)
    ∙ ap (λ (z : Text). placeholder_at at (placeholder_len at) ++ placeholders_in z) (sym left)

pub no_sign : (s : Text) → IsFirstByte (is_byte2 37 123) s None → placeholders_in s ≡ []
no_sign = none_found (is_byte2 37 123) placeholders_in passes

-- ---- where one ends

-- an ASCII byte is the last of so many
record EndsIn (s : Text) (n : ℕ) : Type 0 where
  within : n < length s
  ascii : get_or s n 0 < 128

-- at this place is such a byte
there : (p : ℕ → Bool) → ((c : ℕ) → p c ≡ true → c < 128) → (s : Text) (n : ℕ) → begins p (drop n s) ≡ true → EndsIn s n
there p ascii [] zero h = absurd cc
there p ascii [] (suc n) h = absurd cc
there p ascii (c ∷ s) zero h = record { within = omega arith; ascii = ascii c h }
there p ascii (c ∷ s) (suc n) h =
    let later = there p ascii s n h in
    record { within = omega (arith, later.within); ascii = later.ascii }

kind_ascii : (c : ℕ) → is_kind c ≡ true → c < 128
kind_ascii c h = grind (arith, nat_tests)

place_ascii : (c : ℕ) → is_place_kind c ≡ true → c < 128
place_ascii c h = grind (arith, nat_tests)

value_ascii : (c : ℕ) → (c == 115 || c == 100) ≡ true → c < 128
value_ascii c h = grind (arith, nat_tests)

brace_ascii : (c : ℕ) → (c == close_brace) ≡ true → c < 128
brace_ascii c h = grind (arith, nat_tests)

-- 0, or the byte before it is such a byte
abbrev EndsBefore : Text → ℕ → Type 0
EndsBefore s n = 0 < n → EndsIn s (n - 1)

if_ends : (s : Text) (b : Bool) (n : ℕ) → (b ≡ true → EndsIn s n) → EndsBefore s (if b then suc n else 0)
if_ends s true n h some =
    let e : suc n - 1 ≡ n = omega arith in
    rw e (h refl)
if_ends s false n h some = absurd (omega (arith, some))

named_ends : (n : ℕ) (s : Text) → EndsBefore s (named_len n s)
named_ends n s =
    let e : 3 + n ≡ suc (2 + n) = omega arith in
    rw e (if_ends s (not (n == 0) && (begins_with close_paren (drop (1 + n) s) && begins (λ c. c == 115 || c == 100) (drop (2 + n) s))) (2 + n)
    (λ h. there (λ c. c == 115 || c == 100) value_ascii s (2 + n)
    (and_parts (begins_with close_paren (drop (1 + n) s)) (begins (λ c. c == 115 || c == 100) (drop (2 + n) s)) (and_parts (not (n == 0)) _ h).1).1))

braces_ends : (n : ℕ) (s : Text) → EndsBefore s (braces_len n s)
braces_ends n s =
    let e : 2 + n ≡ suc (1 + n) = omega arith in
    rw e (if_ends s (not (n == 0) && begins_with close_brace (drop (1 + n) s)) (1 + n)
    (λ h. there (λ c. c == close_brace) brace_ascii s (1 + n) (and_parts (not (n == 0)) (begins_with close_brace (drop (1 + n) s)) h).1))

kind_by : (s : Text) (a b d : Bool) (n : ℕ) → (a ≡ true → EndsIn s 0) → (b ≡ true → EndsIn s 2) → EndsBefore s n → EndsBefore s (if a then 1 else if b then 3 else if d then n else 0)
kind_by s true b d n first second third some = first refl
kind_by s false true d n first second third some = second refl
kind_by s false false true n first second third some = third some
kind_by s false false false n first second third some = absurd (omega (arith, some))

kind_ends : (s : Text) → EndsBefore s (kind_len s)
kind_ends s =
    kind_by s (is_plain_kind s) (is_placed s) (begins_with open_paren s) (named_len (prefix_len is_word_byte (drop 1 s)) s)
    (λ h. there is_kind kind_ascii s 0 (and_parts (begins is_kind s) (not (begins is_letter (drop 1 s))) h).0)
    (λ h. there is_place_kind place_ascii s 2
    (and_parts (begins_with dollar (drop 1 s)) (begins is_place_kind (drop 2 s)) (and_parts (begins (is_between 49 57) s) _ h).1).1)
    (named_ends (prefix_len is_word_byte (drop 1 s)) s)

pub kind_within : (s : Text) → kind_len s ≤ length s
kind_within s = by (kind_len s) (kind_ends s)
  where
    by : (n : ℕ) → EndsBefore s n → n ≤ length s
    by zero ends = omega arith
    by (suc n) ends = omega (arith, (ends (omega arith)).within)

after_ends : (c : ℕ) (s : Text) (n : ℕ) (b : Bool) → (n == 0) ≡ b → EndsBefore s n → EndsBefore (c ∷ s) (if b then 0 else 1 + n)
after_ends c s n true is h some = absurd (omega (arith, some))
after_ends c s n false is h some =
    let at_least : 0 < n = grind (arith, nat_tests) in
    let last = h at_least in
    let e : 1 + n - 1 ≡ suc (n - 1) = omega (arith, at_least) in
    rw e (record { within = omega (arith, last.within); ascii = last.ascii })

one_of : (s : Text) (a b : Bool) (m n : ℕ) → EndsBefore s m → EndsBefore s n → EndsBefore s (if a then m else if b then n else 0)
one_of s true b m n first second some = first some
one_of s false true m n first second some = second some
one_of s false false m n first second some = absurd (omega (arith, some))

all_end : (s : Text) → EndsBefore s (placeholder_len s)
all_end [] = λ some. absurd (omega (arith, some))
all_end (c ∷ s) =
    one_of (c ∷ s) (c == percent) (c == open_brace) (if kind_len s == 0 then 0 else 1 + kind_len s) (braces_len (prefix_len is_digit s) (c ∷ s))
    (after_ends c s (kind_len s) (kind_len s == 0) refl (kind_ends s)) (braces_ends (prefix_len is_digit s) (c ∷ s))

cut_by : (s : Text) (n : ℕ) → EndsBefore s n → Cuts s n
cut_by s zero h = cut_none s 0 refl
cut_by s (suc n) h =
    let last = h (omega arith) in
    let e : suc n - 1 ≡ n = omega arith in
    let inside : n < length s = rw e at last.within in
    cut_by_ascii s (suc n) (omega (arith, inside)) (λ _. last.ascii)

pub cut_placeholder : (s : Text) (n : ℕ) → n ≡ placeholder_len s → Cuts s n
cut_placeholder s n is = rw is (cut_by s (placeholder_len s) (all_end s))

-- ---- which are new

order_by : (all : Bool) (xs ys : List Text) (p : Placeholder) (ps : List Placeholder) (a b c : Bool) → a ≡ b →
    new_placeholders all xs ps ≡ new_placeholders all ys ps → new_placeholders all (p.name ∷ xs) ps ≡ new_placeholders all (p.name ∷ ys) ps →
    (if a || c then new_placeholders all xs ps else d.spotted_at p.at (d.new_placeholder p.name) ∷ new_placeholders all (p.name ∷ xs) ps)
    ≡ (if b || c then new_placeholders all ys ps else d.spotted_at p.at (d.new_placeholder p.name) ∷ new_placeholders all (p.name ∷ ys) ps)
order_by all xs ys p ps true true c e old new = old
order_by all xs ys p ps false false true e old new = old
order_by all xs ys p ps false false false e old new = ap (λ zs. d.spotted_at p.at (d.new_placeholder p.name) ∷ zs) new
order_by all xs ys p ps true false c e old new = absurd cc
order_by all xs ys p ps false true c e old new = absurd cc

pub any_order : (all : Bool) (xs ys : List Text) (ps : List Placeholder) → Same xs ys → new_placeholders all xs ps ≡ new_placeholders all ys ps
any_order all xs ys [] same = refl
any_order all xs ys (p ∷ ps) same =
    order_by all xs ys p ps (is_among p.name xs) (is_among p.name ys) (not (all || is_certain p.name)) (same p.name)
    (any_order all xs ys ps same) (any_order all (p.name ∷ xs) (p.name ∷ ys) ps (same_more p.name xs ys same))

-- ---- where a text may be cut at a sign

sign_ascii : (c : ℕ) → is_byte2 37 123 c ≡ true → c < 128
sign_ascii c h = grind (arith, nat_tests)

pub cut_at_sign : (s : Text) (n : ℕ) → IsFirstByte (is_byte2 37 123) s (Some n) → Cuts s n
cut_at_sign s n found = cut_before_ascii s n (omega (arith, found.0.high)) (sign_ascii (get_or s n 0) found.1)

pub cut_after_sign : (s at : Text) (n : ℕ) → IsFirstByte (is_byte2 37 123) s (Some n) → at ≡ drop n s → Cuts at 1
cut_after_sign s at n found here =
    let long : 1 ≤ length at = rw here (omega (arith, found.0.high, length-drop n s)) in
    let first : get_or at 0 0 < 128 = rw (here, get_or-drop n s 0 0, add-zero) (sign_ascii (get_or s n 0) found.1) in
    cut_by_ascii at 1 long (λ _. first)

-- ---- by the sign at the front

pub percent_len : (s : Text) (k n : ℕ) → begins_with percent s ≡ true → k ≡ kind_len (drop 1 s) → n ≡ (if k == 0 then 0 else 1 + k) → n ≡ placeholder_len s
percent_len s k n sign kind is =
    is ∙ ap (λ m. if m == 0 then 0 else 1 + m) kind
    ∙ sym (ap (λ b. if b then (if kind_len (drop 1 s) == 0 then 0 else 1 + kind_len (drop 1 s)) else if begins_with open_brace s then braces_len (prefix_len is_digit (drop 1 s)) s else 0) sign)

pub brace_len : (s : Text) (m n : ℕ) → begins_with percent s ≡ false → begins_with open_brace s ≡ true → m ≡ prefix_len is_digit (drop 1 s) → n ≡ braces_len m s → n ≡ placeholder_len s
brace_len s m n other sign digits is =
    is ∙ ap (λ k. braces_len k s) digits
    ∙ sym (ap (λ b. if b then braces_len (prefix_len is_digit (drop 1 s)) s else 0) sign)
    ∙ sym (ap (λ b. if b then (if kind_len (drop 1 s) == 0 then 0 else 1 + kind_len (drop 1 s)) else if begins_with open_brace s then braces_len (prefix_len is_digit (drop 1 s)) s else 0) other)

-- ---- one more

pub one_new : (all : Bool) (known : List Text) (p : Placeholder) (ps : List Placeholder) → (is_among p.name known || not (all || is_certain p.name)) ≡ false →
    new_placeholders all known (p ∷ ps) ≡ (d.spotted_at p.at (d.new_placeholder p.name) ∷ []) ++ new_placeholders all (union known (p.name ∷ [])) ps
one_new all known p ps h =
    ap (λ b. if b then new_placeholders all known ps else d.spotted_at p.at (d.new_placeholder p.name) ∷ new_placeholders all (p.name ∷ known) ps) h
    ∙ ap (λ zs. d.spotted_at p.at (d.new_placeholder p.name) ∷ zs)
    (sym (any_order all (union known (p.name ∷ [])) (p.name ∷ known) ps
    (same_added known p.name (or_parts (is_among p.name known) (not (all || is_certain p.name)) h).0)))

pub one_old : (all : Bool) (known : List Text) (p : Placeholder) (ps : List Placeholder) → (is_among p.name known || not (all || is_certain p.name)) ≡ true →
    new_placeholders all known (p ∷ ps) ≡ new_placeholders all known ps
one_old all known p ps h =
    ap (λ b. if b then new_placeholders all known ps else d.spotted_at p.at (d.new_placeholder p.name) ∷ new_placeholders all (p.name ∷ known) ps) h
