-- Where the line at the front of a text ends.
use Rattle.std.proofs.Common.{◌≡◌, ℕ, suc, ◌<◌, Bool, true, false, ◌&&◌, ◌⊎◌, inl, inr, [], ◌∷◌, length, get_or, refl, ap, ◌∙◌, arith, subst, sym}
use Rattle.std.specs.Prelude.{◌==◌}
use Rattle.fluent_grammar.specs.Words.{Text, line_feed, carriage_return, begins_with, rest_of_line}
use Rattle.fluent_tokens.specs.Counted.{Cuts, IsLine}
use Rattle.fluent_tokens.proofs.Counted.{cut_end, cut_before_ascii}
use Rattle.fluent_tokens.proofs.Scanned.{test_of}
use Rattle.fluent_tokens.proofs.OneByOne.{both}

-- how many bytes a line has
abbrev pub line_len : Text → ℕ
line_len s = length (rest_of_line s).0

-- ---- the first byte
pub at_feed : (c : ℕ) (cs : Text) → (c == line_feed) ≡ true → line_len (c ∷ cs) ≡ 0
at_feed c cs e = rw e refl

pub at_crlf : (c : ℕ) (cs : Text) → (c == line_feed) ≡ false → (c == carriage_return && begins_with line_feed cs) ≡ true → line_len (c ∷ cs) ≡ 0
at_crlf c cs e f = rw (e, f) refl

pub at_other : (c : ℕ) (cs : Text) → (c == line_feed) ≡ false → (c == carriage_return && begins_with line_feed cs) ≡ false → line_len (c ∷ cs) ≡ suc (line_len cs)
at_other c cs e f = rw (e, f) refl

-- ---- what the line is
is_none : (c : ℕ) (cs : Text) (b : Bool) → (c == line_feed) ≡ b → (b ≡ false → (c == carriage_return && begins_with line_feed cs) ≡ true) → IsLine (c ∷ cs) 0
is_none c cs true e f = rw e refl
is_none c [] false e f = absurd (let k = (both (c == carriage_return) false (f refl)).1 in cc)
is_none c (d ∷ ds) false e f = let k = both (c == carriage_return) (d == line_feed) (f refl) in rw (e, k.0, k.1) refl

is_more : (c : ℕ) (cs : Text) (n : ℕ) → (c == line_feed) ≡ false → (c == carriage_return && begins_with line_feed cs) ≡ false → IsLine cs n → IsLine (c ∷ cs) (suc n)
is_more c cs n e f more =
    let first : rest_of_line (c ∷ cs) ≡ (c ∷ (rest_of_line cs).0, (rest_of_line cs).1) = rw (e, f) refl in
    first ∙ ap (λ (x : Text × Text). (c ∷ x.0, x.1)) more

is_by : (b d : Bool) (c : ℕ) (cs : Text) → (c == line_feed) ≡ b → (c == carriage_return && begins_with line_feed cs) ≡ d → IsLine cs (line_len cs) → IsLine (c ∷ cs) (line_len (c ∷ cs))
is_by true d c cs e f more = subst (IsLine (c ∷ cs)) (sym (at_feed c cs e)) (is_none c cs true e (λ z. absurd cc))
is_by false true c cs e f more = subst (IsLine (c ∷ cs)) (sym (at_crlf c cs e f)) (is_none c cs false e (λ z. f))
is_by false false c cs e f more = subst (IsLine (c ∷ cs)) (sym (at_other c cs e f)) (is_more c cs (line_len cs) e f more)

is_line : (s : Text) → IsLine s (line_len s)
is_line [] = refl
is_line (c ∷ cs) = is_by (c == line_feed) (c == carriage_return && begins_with line_feed cs) c cs refl refl (is_line cs)

pub line_is : (s : Text) (n : ℕ) → n ≡ line_len s → IsLine s n
line_is s n e = subst (IsLine s) (sym e) (is_line s)

-- ---- the text may be cut there
abbrev EndsAt : Text → ℕ → Type 0
EndsAt s n = (n ≡ length s) ⊎ ((n < length s) × (get_or s n 0 < 128))

ends_more : (c : ℕ) (cs : Text) (n : ℕ) → EndsAt cs n → EndsAt (c ∷ cs) (suc n)
ends_more c cs n (inl e) = inl (ap suc e)
ends_more c cs n (inr e) = inr (omega (arith, e.0), e.1)

ends_by : (b d : Bool) (c : ℕ) (cs : Text) → (c == line_feed) ≡ b → (c == carriage_return && begins_with line_feed cs) ≡ d → EndsAt cs (line_len cs) → EndsAt (c ∷ cs) (line_len (c ∷ cs))
ends_by true d c cs e f more = subst (EndsAt (c ∷ cs)) (sym (at_feed c cs e)) (inr (omega arith, omega (arith, test_of c 10 e)))
ends_by false true c cs e f more = subst (EndsAt (c ∷ cs)) (sym (at_crlf c cs e f)) (inr (omega arith, omega (arith, test_of c 13 (both (c == carriage_return) (begins_with line_feed cs) f).0)))
ends_by false false c cs e f more = subst (EndsAt (c ∷ cs)) (sym (at_other c cs e f)) (ends_more c cs (line_len cs) more)

ends_at : (s : Text) → EndsAt s (line_len s)
ends_at [] = inl refl
ends_at (c ∷ cs) = ends_by (c == line_feed) (c == carriage_return && begins_with line_feed cs) c cs refl refl (ends_at cs)

cut_at : (s : Text) (n : ℕ) → EndsAt s n → Cuts s n
cut_at s n (inl e) = cut_end s n e
cut_at s n (inr e) = cut_before_ascii s n e.0 e.1

pub line_cuts : (s : Text) (n : ℕ) → n ≡ line_len s → Cuts s n
line_cuts s n e = subst (Cuts s) (sym e) (cut_at s (line_len s) (ends_at s))
