-- The character at the front of a text.
use Rattle.std.proofs.Common.{◌≡◌, ℕ, suc, ◌+◌, ◌/◌, ◌<◌, ◌≤◌, Bool, true, false, cond, ◌&&◌, List, [], ◌∷◌, ◌++◌, length, take, drop, refl, sym, ap, ◌∙◌, arith, subst}
use Rattle.std.specs.Prelude.{nat_lt}
use Rattle.std.specs.Str.{IsUtf8, continuation_len}
use Rattle.std.proofs.lemmas.Bool.Decides.{nat_tests}
use Rattle.std.proofs.lemmas.Str.{IsCharBoundary-at_seam}
use Rattle.std.proofs.lemmas.List.{length-append, length-take-le}
use Rattle.std.proofs.Math.Seq.{take-add}
use Rattle.fluent_tokens.proofs.Scanned.{cut_more}
use lib.Utf8.{encode, encodes, scalar, scalars}
use Rattle.fluent_grammar.specs.Words.{Text}
use Rattle.fluent_grammar.specs.Reading.{first_char}
use Rattle.fluent_tokens.specs.Counted.{Cuts, char_len}

test_lt : (a b : ℕ) → a < b → nat_lt a b ≡ true
test_lt a b h = grind (arith, nat_tests)

test_ge : (a b : ℕ) → b ≤ a → nat_lt a b ≡ false
test_ge a b h = grind (arith, nat_tests)

lt_of : (a b : ℕ) → nat_lt a b ≡ true → a < b
lt_of a b h = grind (arith, nat_tests)

ge_of : (a b : ℕ) → nat_lt a b ≡ false → b ≤ a
ge_of a b h = grind (arith, nat_tests)

one : (b : ℕ) → b < 128 → continuation_len b ≡ 0
one b h = rw (test_lt b 128 h) refl

two : (b : ℕ) → 192 ≤ b → b < 224 → continuation_len b ≡ 1
two b h k = rw (test_ge b 128 (omega arith), test_lt b 224 k) refl

three : (b : ℕ) → 224 ≤ b → b < 240 → continuation_len b ≡ 2
three b h k = rw (test_ge b 128 (omega arith), test_ge b 224 h, test_lt b 240 k) refl

four : (b : ℕ) → 240 ≤ b → continuation_len b ≡ 3
four b h = rw (test_ge b 128 (omega arith), test_ge b 224 (omega arith), test_ge b 240 h) refl

encoded_by : (c : ℕ) (x y z d : ℕ) (more : Text) (p q r : Bool) → nat_lt c 128 ≡ p → nat_lt c 2048 ≡ q → nat_lt c 65536 ≡ r →
    char_len (cond p (c ∷ []) (cond q ((192 + c / 64) ∷ x ∷ []) (cond r ((224 + c / 4096) ∷ y ∷ x ∷ []) ((240 + c / 262144) ∷ z ∷ y ∷ x ∷ []))) ++ more)
    ≡ length (cond p (c ∷ []) (cond q ((192 + c / 64) ∷ x ∷ []) (cond r ((224 + c / 4096) ∷ y ∷ x ∷ []) ((240 + c / 262144) ∷ z ∷ y ∷ x ∷ []))))
encoded_by c x y z d more true q r e f g = ap suc (one c (lt_of c 128 e))
encoded_by c x y z d more false true r e f g = ap suc (two (192 + c / 64) (omega arith) (omega (arith, lt_of c 2048 f)))
encoded_by c x y z d more false false true e f g = ap suc (three (224 + c / 4096) (omega arith) (omega (arith, lt_of c 65536 g)))
encoded_by c x y z d more false false false e f g = ap suc (four (240 + c / 262144) (omega arith))

encoded_len : (c : ℕ) (more : Text) → char_len (encode c ++ more) ≡ length (encode c)
unfolding encode
encoded_len c more = encoded_by c _ _ _ 0 more (nat_lt c 128) (nat_lt c 2048) (nat_lt c 65536) refl refl refl

tail_of : (p q : Bool) → (p && q) ≡ true → q ≡ true
tail_of true q e = e
tail_of false q e = absurd cc

utf8_tail : (c : ℕ) (cs : List ℕ) → scalars (c ∷ cs) ≡ true → IsUtf8 (encodes cs)
utf8_tail c cs e = (cs, (tail_of (scalar c) (scalars cs) e, refl))

char_cuts : (cs : List ℕ) → scalars cs ≡ true → Cuts (encodes cs) (char_len (encodes cs))
char_cuts [] e = record { within = omega arith; boundary = λ u. (omega arith, λ h. absurd (omega arith)) }
char_cuts (c ∷ cs) e =
    let n = encoded_len c (encodes cs) in
    rw n (record {
      within = omega (arith, length-append (encode c) (encodes cs));
      boundary = λ u. IsCharBoundary-at_seam (encode c ++ encodes cs) (encode c) (encodes cs) refl (utf8_tail c cs e);
    })

-- a text may be cut after its first character
pub cut_char : (s : Text) → IsUtf8 s → Cuts s (char_len s)
cut_char s u = subst (λ (t : Text). Cuts t (char_len t)) u.1.1 (char_cuts u.0 u.1.0)

pub first_char_is : (s : Text) → take (char_len s) s ≡ first_char s
first_char_is [] = refl
first_char_is (b ∷ bs) = refl

pub first_char_front : (s : Text) (n : ℕ) (first : Text) → first ≡ first_char (drop n s) → n ≤ length s → IsUtf8 (drop n s) → take (n + length first) s ≡ take n s ++ first_char (drop n s)
first_char_front s n first e h u =
    let c = cut_char (drop n s) u in
    let l : length first ≡ char_len (drop n s) = ap length (e ∙ sym (first_char_is (drop n s))) ∙ length-take-le (char_len (drop n s)) (drop n s) c.within in
    rw l (take-add n (char_len (drop n s)) s ∙ ap (λ (z : Text). take n s ++ z) (first_char_is (drop n s)))

pub cut_first : (s : Text) (n : ℕ) (first : Text) → first ≡ first_char (drop n s) → IsUtf8 (drop n s) → Cuts s n → Cuts s (n + length first)
cut_first s n first e u p =
    let c = cut_char (drop n s) u in
    let l : length first ≡ char_len (drop n s) = ap length (e ∙ sym (first_char_is (drop n s))) ∙ length-take-le (char_len (drop n s)) (drop n s) c.within in
    cut_more s n (char_len (drop n s)) (n + length first) (ap (λ (k : ℕ). n + k) l) p c
