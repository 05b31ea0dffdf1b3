-- Where the line at the front of a text ends, and whether it is plain.
use Rattle.std.proofs.Common.{◌≡◌, ◌≢◌, ℕ, zero, suc, ◌-◌, ◌<◌, ◌≤◌, Bool, true, false, cond, ◌&&◌, ◌||◌, min, [], ◌∷◌, length, take, get_or, refl, ap, ◌∙◌, arith}
use Rattle.std.specs.Prelude.{◌==◌, nat_lt}
use Rattle.std.proofs.lemmas.Bool.Decides.{nat_tests}
use Rattle.std.proofs.lemmas.List.{length-take}
use Rattle.memchr.specs.Find.{Nowhere, Passes, is_byte}
use Rattle.fluent_grammar.specs.Words.{Text, line_feed, carriage_return, begins_with, rest_of_line}
use Rattle.fluent_tokens.specs.Counted.{Cuts, IsLine, before_feed, is_no_brace, is_plain}
use Rattle.fluent_tokens.proofs.Counted.{cut_before_ascii}
use Rattle.fluent_tokens.proofs.Scanned.{Plain, plain_tail, line_is, line_is_crlf, and_false, test_of, test_ne}

-- ---- the end
line_ends_by : (s : Text) (k r : ℕ) (b : Bool) → ((0 < k) → (get_or s (k - 1) 0 ≡ 13) → b ≡ true) → (b ≡ true → (0 < k) × (get_or s (k - 1) 0 ≡ 13)) → r ≡ cond b (k - 1) k
    → k < length s → get_or s k 0 ≡ 10 → Nowhere (Passes (is_byte 10) s) 0 k → IsLine s r × Cuts s r
line_ends_by s k r true f g e h at p =
    let w = g refl in
    rw e (line_is_crlf s k w.0 h at p w.1, cut_before_ascii s (k - 1) (omega arith) (rw w.1 (omega arith)))
line_ends_by s k r false f g e h at p = rw e (line_is s k h at p (λ z x. absurd cc (f z x)), cut_before_ascii s k h (rw at (omega arith)))

pub line_ends : (s : Text) (k r : ℕ) → r ≡ before_feed s k → k < length s → get_or s k 0 ≡ 10 → Nowhere (Passes (is_byte 10) s) 0 k → IsLine s r × Cuts s r
line_ends s k r e h at p = line_ends_by s k r (nat_lt 0 k && get_or s (k - 1) 0 == 13) (λ z x. grind (arith, nat_tests)) (λ b. grind (arith, nat_tests)) e h at p

-- where no brace comes first, either
pub no_feed : (s : Text) (k : ℕ) → Plain s k → Nowhere (Passes (is_byte 10) s) 0 k
no_feed s k p j low high e = p.line j high (test_of _ 10 e)

pub before_feed_le : (s : Text) (k r : ℕ) → r ≡ before_feed s k → r ≤ k
before_feed_le s k r e = le_by (nat_lt 0 k && get_or s (k - 1) 0 == 13) k r e
  where
    le_by : (b : Bool) (k r : ℕ) → r ≡ cond b (k - 1) k → r ≤ k
    le_by true k r e = omega (arith, e)
    le_by false k r e = omega (arith, e)

-- ---- plain
no_brace : (c : ℕ) → c ≢ 123 → c ≢ 125 → is_no_brace c ≡ true
no_brace c a b = rw (test_ne c 123 a, test_ne c 125 b) refl

pub plain_front : (s : Text) (k n : ℕ) → Plain s k → n ≤ k → is_plain (take n s) ≡ true
plain_front s k zero p h = refl
plain_front [] k (suc n) p h = refl
plain_front (c ∷ cs) zero (suc n) p h = absurd (omega (arith, h))
plain_front (c ∷ cs) (suc k) (suc n) p h =
    let more = plain_front cs k n (plain_tail c cs k p) (omega (arith, h)) in
    let one = no_brace c (p.brace 0 (omega arith)) (p.close 0 (omega arith)) in
    ap (λ (b : Bool). b && is_plain (take n cs)) one ∙ more

pub brace_front : (s : Text) (k n : ℕ) → k < n → is_no_brace (get_or s k 0) ≡ false → is_plain (take n s) ≡ false
brace_front s k zero h e = absurd (omega (arith, h))
brace_front [] k (suc n) h e = absurd cc
brace_front (c ∷ cs) zero (suc n) h e = ap (λ (b : Bool). b && is_plain (take n cs)) e
brace_front (c ∷ cs) (suc k) (suc n) h e = and_false (is_no_brace c) _ (brace_front cs k n (omega (arith, h)) e)

-- a brace before any line feed stands in the line
one_more : (c : ℕ) (cs : Text) → c ≢ 10 → (c == carriage_return && begins_with line_feed cs) ≡ false → length (rest_of_line (c ∷ cs)).0 ≡ suc (length (rest_of_line cs).0)
one_more c cs a b = rw (test_ne c 10 a, b) refl

no_return : (c : ℕ) (cs : Text) → c ≢ 13 → (c == carriage_return && begins_with line_feed cs) ≡ false
no_return c cs a = rw (test_ne c 13 a) refl

feed_next : (cs : Text) → get_or cs 0 0 ≢ 10 → begins_with line_feed cs ≡ false
feed_next [] f = refl
feed_next (c ∷ cs) f = test_ne c 10 f

-- a brace is no other byte
pub other : (c b : ℕ) → is_no_brace c ≡ false → b < 123 → c ≢ b
other c b e h x = absurd (let t = no_brace c (λ (y : c ≡ 123). omega (arith, x, y, h)) (λ (y : c ≡ 125). omega (arith, x, y, h)) in cc)

next_of : (cs : Text) (k : ℕ) → Plain cs k → is_no_brace (get_or cs k 0) ≡ false → get_or cs 0 0 ≢ 10
next_of cs zero p e = other (get_or cs 0 0) 10 e (omega arith)
next_of cs (suc k) p e = p.line 0 (omega arith)

brace_inside : (s : Text) (k : ℕ) → Plain s k → is_no_brace (get_or s k 0) ≡ false → k < length s → k < length (rest_of_line s).0
brace_inside [] k p e h = absurd (omega (arith, h))
brace_inside (c ∷ cs) zero p e h =
    let n = one_more c cs (other c 10 e (omega arith)) (no_return c cs (other c 13 e (omega arith))) in
    omega (arith, n)
brace_inside (c ∷ cs) (suc k) p e h =
    let t = plain_tail c cs k p in
    let n = one_more c cs (p.line 0 (omega arith)) (and_false (c == carriage_return) _ (feed_next cs (next_of cs k t e))) in
    omega (arith, n, brace_inside cs k t e (omega (arith, h)))

pub line_length : (s : Text) (len : ℕ) → IsLine s len → len ≤ length s → length (rest_of_line s).0 ≡ len
line_length s len h n =
    let k : min len (length s) ≡ len = omega (arith, n) in
    ap (λ (x : Text × Text). length x.0) h ∙ length-take len s ∙ k

brace_test : (c : ℕ) → (c == 123 || c == 125 || c == 10) ≡ true → c ≢ 10 → is_no_brace c ≡ false
brace_test c h a = grind (arith, nat_tests)

pub not_plain : (s : Text) (k n : ℕ) → Plain s k → (get_or s k 0 == 123 || get_or s k 0 == 125 || get_or s k 0 == 10) ≡ true → get_or s k 0 ≢ 10 → k < length s → IsLine s n → n ≤ length s → is_plain (take n s) ≡ false
not_plain s k n p t a h l m =
    let e = brace_test (get_or s k 0) t a in
    brace_front s k n (omega (arith, brace_inside s k p e h, line_length s n l m)) e
