-- The text of a plain line after the spaces before it, by the line's row.
use Rattle.std.proofs.Common.{◌≡◌, ℕ, zero, suc, ◌+◌, ◌-◌, ◌≤◌, Bool, true, false, not, ◌&&◌, [], ◌∷◌, length, take, drop, refl, sym, ap, ◌∙◌, arith, subst}
use Rattle.std.specs.Prelude.{◌==◌, Ok}
use Rattle.std.specs.Int.{from_bool}
use Rattle.std.proofs.lemmas.List.{drop-drop}
use Rattle.fluent_grammar.specs.Words.{Text, space, line_feed, carriage_return, open_brace, close_brace, begins_with, spaces}
use Rattle.fluent_grammar.specs.Lines.{ends_line, is_blank_text}
use Rattle.fluent_tokens.specs.Counted.{IsText, is_no_brace, is_plain}
use Rattle.fluent_tokens.proofs.Scanned.{test_of, test_eq, test_ne}
use Rattle.fluent_tokens.specs.Lookup.{with_line_feed}
use Rattle.fluent_tokens.specs.IndentedTexts.{IsTextStart, IsTextOf}
use Rattle.fluent_tokens.specs.declared.plain.PlainLine.{PlainLine}
use Rattle.fluent_tokens.proofs.LineEnds.{line_len, at_crlf, at_other}
use Rattle.fluent_tokens.proofs.OneByOne.{both}
use Rattle.fluent_tokens.proofs.OneLines.{ends_at_feed}
use Rattle.fluent_tokens.proofs.Places.{NoFeed, end_past, one_clear, plain_past}
use Rattle.fluent_tokens.proofs.PlainTexts.{neither}

-- ---- the spaces
none_clear : (s : Text) → NoFeed s 0
none_clear s = λ j h. absurd (omega (arith, h))

-- no line feed is among them, and no space after them
record Spaced (s : Text) : Type 0 where
  within : spaces s ≤ length s
  clear : NoFeed s (spaces s)
  after : begins_with space (drop (spaces s) s) ≡ false

spaced_by : (b : Bool) (c : ℕ) (cs : Text) → (c == space) ≡ b → Spaced cs → Spaced (c ∷ cs)
spaced_by true c cs e more =
    let one : spaces (c ∷ cs) ≡ 1 + spaces cs = rw e refl in
    let n : spaces (c ∷ cs) ≡ suc (spaces cs) = omega (arith, one) in
    let other : (c == line_feed) ≡ false = let x : c ≡ 32 = test_of c 32 e in rw x refl in
    record {
      within = omega (arith, n, more.within);
      clear = subst (NoFeed (c ∷ cs)) (sym n) (one_clear c cs (spaces cs) other more.clear);
      after = ap (λ (k : ℕ). begins_with space (drop k (c ∷ cs))) n ∙ more.after;
    }
spaced_by false c cs e more =
    let n : spaces (c ∷ cs) ≡ 0 = rw e refl in
    record {
      within = omega (arith, n);
      clear = subst (NoFeed (c ∷ cs)) (sym n) (none_clear (c ∷ cs));
      after = ap (λ (k : ℕ). begins_with space (drop k (c ∷ cs))) n ∙ e;
    }

spaced : (s : Text) → Spaced s
spaced [] = record { within = omega arith; clear = none_clear []; after = refl }
spaced (c ∷ cs) = spaced_by (c == space) c cs refl (spaced cs)

pub spaces_within : (s : Text) (n : ℕ) → n ≡ spaces s → n ≤ length s
spaces_within s n e = omega (arith, e, (spaced s).within)

-- a place after them, in one step or in two
pub cut_after : {text here u : Text} (place n : ℕ) → here ≡ text → u ≡ drop (place + n) here → u ≡ drop n (drop place text)
cut_after {text} {here} {u} place n same h = h ∙ ap (drop (place + n)) same ∙ sym (drop-drop n place text)

-- what is left of the line after them
pub line_left : (s : Text) (n len : ℕ) → n ≡ spaces s → len ≡ line_len s - n → len ≡ line_len (drop n s)
line_left s n len e h =
    let clear : NoFeed s n = subst (NoFeed s) (sym e) (spaced s).clear in
    h ∙ end_past s n (spaces_within s n e) clear

pub plain_left : (s : Text) (n len : ℕ) → is_plain (take (line_len s) s) ≡ true → len ≡ line_len s - n → is_plain (take len (drop n s)) ≡ true
plain_left s n len h e = ap (λ (k : ℕ). is_plain (take k (drop n s))) e ∙ plain_past s (line_len s) n h

-- ---- the text
-- the line at the front, by its first byte
data First : Text → Type 0 where
  none : First []
  feed : (cs : Text) → First (10 ∷ cs)
  crlf : (cs : Text) → begins_with line_feed cs ≡ true → First (13 ∷ cs)
  other : (c : ℕ) (cs : Text) → (c == line_feed) ≡ false → (c == carriage_return && begins_with line_feed cs) ≡ false → First (c ∷ cs)

first_by : (b d : Bool) (c : ℕ) (cs : Text) → (c == line_feed) ≡ b → (c == carriage_return && begins_with line_feed cs) ≡ d → First (c ∷ cs)
first_by true d c cs e f = subst (λ (k : ℕ). First (k ∷ cs)) (sym (test_of c 10 e)) (feed cs)
first_by false true c cs e f =
    let k = both (c == carriage_return) (begins_with line_feed cs) f in
    subst (λ (k : ℕ). First (k ∷ cs)) (sym (test_of c 13 k.0)) (crlf cs k.1)
first_by false false c cs e f = other c cs e f

first : (s : Text) → First s
first [] = none
first (c ∷ cs) = first_by (c == line_feed) (c == carriage_return && begins_with line_feed cs) c cs refl refl

-- how many bytes a text has, up to and with the line feed
abbrev text_len : Text → ℕ
text_len s = with_line_feed (line_len s) s

nothing_at : (c : ℕ) (cs : Text) → line_len (c ∷ cs) ≡ 0 → (c == line_feed) ≡ false → text_len (c ∷ cs) ≡ 0
nothing_at c cs n e = ap (λ (k : ℕ). with_line_feed k (c ∷ cs)) n ∙ rw e refl

no_brace_at : (c : ℕ) (cs : Text) → line_len (c ∷ cs) ≡ suc (line_len cs) → is_plain (take (line_len (c ∷ cs)) (c ∷ cs)) ≡ true → (c == open_brace) ≡ false
no_brace_at c cs n p =
    let q : (is_no_brace c && is_plain (take (line_len cs) cs)) ≡ true = subst (λ (k : ℕ). is_plain (take k (c ∷ cs)) ≡ true) n p in
    (neither (c == open_brace) (c == close_brace) (both (is_no_brace c) (is_plain (take (line_len cs) cs)) q).0).0

not_zero : (n : ℕ) → (suc n == 0) ≡ false
not_zero n = test_ne (suc n) 0 (λ z. absurd (omega (arith, z)))

starts : {s : Text} → First s → is_plain (take (line_len s) s) ≡ true → (text_len s == 0) ≡ false → IsTextStart s
starts none p h = absurd cc
starts (feed cs) p h = record { some = not_zero (length cs); brace = refl; crlf = refl }
starts (crlf cs f) p h =
    let z : text_len (13 ∷ cs) ≡ 0 = nothing_at 13 cs (at_crlf 13 cs refl f) refl in
    absurd (let k : (0 == 0) ≡ false = subst (λ (n : ℕ). (n == 0) ≡ false) z h in cc)
starts (other c cs e f) p h = record { some = not_zero (length cs); brace = no_brace_at c cs (at_other c cs e f) p; crlf = f }

-- it is blank if nothing of the line is left
blank_other : (c n : ℕ) (cs : Text) → (c == space) ≡ false → (c == line_feed) ≡ false → is_blank_text (take (suc n) (c ∷ cs)) ≡ false
blank_other c n cs e f = rw (e, f) refl

blank : {s : Text} → First s → begins_with space s ≡ false → (text_len s == 0) ≡ false → (line_len s == 0) ≡ is_blank_text (take (text_len s) s)
blank none b h = absurd cc
blank (feed cs) b h = refl
blank (crlf cs f) b h =
    let z : text_len (13 ∷ cs) ≡ 0 = nothing_at 13 cs (at_crlf 13 cs refl f) refl in
    absurd (let k : (0 == 0) ≡ false = subst (λ (n : ℕ). (n == 0) ≡ false) z h in cc)
blank (other c cs e f) b h =
    let n : line_len (c ∷ cs) ≡ suc (line_len cs) = at_other c cs e f in
    let m : text_len (c ∷ cs) ≡ suc (with_line_feed (line_len cs) cs) = ap (λ (k : ℕ). with_line_feed k (c ∷ cs)) n ∙ omega arith in
    ap (λ (k : ℕ). k == 0) n ∙ not_zero (line_len cs) ∙ sym (blank_other c (with_line_feed (line_len cs) cs) cs b e) ∙ ap (λ (k : ℕ). is_blank_text (take k (c ∷ cs))) (sym m)

-- no line feed ends it within the line
unended_more : (c : ℕ) (cs : Text) → (c == line_feed) ≡ false → (n : ℕ) → ends_line (take n cs) ≡ false → ends_line (take (suc n) (c ∷ cs)) ≡ false
unended_more c cs e zero h = e
unended_more c [] e (suc n) h = e
unended_more c (d ∷ ds) e (suc n) h = h

unended_by : {s : Text} → First s → ((c : ℕ) (cs : Text) → s ≡ c ∷ cs → ends_line (take (line_len cs) cs) ≡ false) → ends_line (take (line_len s) s) ≡ false
unended_by none h = refl
unended_by (feed cs) h = refl
unended_by (crlf cs f) h = ap (λ (k : ℕ). ends_line (take k (13 ∷ cs))) (at_crlf 13 cs refl f)
unended_by (other c cs e f) h = ap (λ (k : ℕ). ends_line (take k (c ∷ cs))) (at_other c cs e f) ∙ unended_more c cs e (line_len cs) (h c cs refl)

tail_same : (b c : ℕ) (bs cs : Text) → b ∷ bs ≡ c ∷ cs → bs ≡ cs
tail_same b c bs cs e = cc

unended : (s : Text) → ends_line (take (line_len s) s) ≡ false
unended [] = refl
unended (c ∷ cs) = unended_by (first (c ∷ cs)) (λ b bs e. subst (λ (s : Text). ends_line (take (line_len s) s) ≡ false) (tail_same c b cs bs e) (unended cs))

ends_by : (b : Bool) (s : Text) → begins_with line_feed (drop (line_len s) s) ≡ b → not (text_len s == line_len s) ≡ ends_line (take (text_len s) s)
ends_by true s e =
    let n : text_len s ≡ suc (line_len s) = ap (λ (z : Bool). line_len s + from_bool z) e ∙ omega arith in
    let other : (text_len s == line_len s) ≡ false = test_ne (text_len s) (line_len s) (λ z. absurd (omega (arith, z, n))) in
    ap not other ∙ sym (ends_at_feed s (line_len s) e) ∙ ap (λ (k : ℕ). ends_line (take k s)) (sym n)
ends_by false s e =
    let n : text_len s ≡ line_len s = ap (λ (z : Bool). line_len s + from_bool z) e ∙ omega arith in
    ap not (test_eq (text_len s) (line_len s) n) ∙ sym (unended s) ∙ ap (λ (k : ℕ). ends_line (take k s)) (sym n)

-- all of it, by the length of what is left of the line
text_is : (s : Text) (line : PlainLine) → begins_with space s ≡ false → is_plain (take (line_len s) s) ≡ true → IsText s (Ok line.count) → line.count ≡ text_len s → (line.count == 0) ≡ false
    → line.is_blank ≡ (line_len s == 0) → line.ends_line ≡ not (line.count == line_len s) → IsTextOf line s
text_is s line b p t c some z e =
    let h : (text_len s == 0) ≡ false = subst (λ (n : ℕ). (n == 0) ≡ false) c some in
    record {
      start = starts (first s) p h;
      text = t;
      blank = z ∙ blank (first s) b h ∙ ap (λ (n : ℕ). is_blank_text (take n s)) (sym c);
      ends = e ∙ ap (λ (n : ℕ). not (n == line_len s)) c ∙ ends_by (begins_with line_feed (drop (line_len s) s)) s refl ∙ ap (λ (n : ℕ). ends_line (take n s)) (sym c);
    }

-- after the spaces before it
pub text_left : (s : Text) (line : PlainLine) (len : ℕ) → line.indent ≡ spaces s → len ≡ line_len (drop line.indent s) → is_plain (take len (drop line.indent s)) ≡ true
    → IsText (drop line.indent s) (Ok line.count) → line.count ≡ with_line_feed len (drop line.indent s) → (line.count == 0) ≡ false → line.is_blank ≡ (len == 0) → line.ends_line ≡ not (line.count == len)
    → IsTextOf line (drop line.indent s)
text_left s line len i e p t c some z f =
    let u = drop line.indent s in
    let after : begins_with space u ≡ false = ap (λ (n : ℕ). begins_with space (drop n s)) i ∙ (spaced s).after in
    text_is u line after (subst (λ (n : ℕ). is_plain (take n u) ≡ true) e p) t (c ∙ ap (λ (n : ℕ). with_line_feed n u) e) some (z ∙ ap (λ (n : ℕ). n == 0) e) (f ∙ ap (λ (n : ℕ). not (line.count == n)) e)
