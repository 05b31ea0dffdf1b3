-- A word that is spelled is spelled by the same front before any rest that is alike.
use Rattle.std.proofs.Common.{◌≡◌, ℕ, true, false, [], ◌∷◌, ◌++◌, Option, Some, None, refl, sym, ◌∙◌, arith, replicate, append_assoc, ap, suc, zero}
use Rattle.std.specs.Prelude.{◌==◌, ◌≢◌}
use Rattle.fluent_grammar.specs.Words.{Text, space, line_feed, carriage_return, quote, hyphen, dot, colon, open_brace, is_letter, is_digit, is_name_byte, is_hex_digit, begins, begins_with, spaces, skip_spaces, skip_blank_block, after_line_end, hex_digits, skip_blank}
use Rattle.fluent_grammar.specs.Tree as t
use Rattle.fluent_grammar.specs.Lexical.{SpellsLineEnd, lf, crlf, SpellsName, SpellsDigits, SpellsUnsigned, whole, decimal, SpellsNumber, unsigned, negative, SpellsString, closing_quote, plain_byte, escaped_backslash, escaped_quote, four_digits, six_digits, SpellsAccessor, no_accessor, an_accessor, SpellsKey, number_key, identifier_key, SpellsLiteral, a_string, a_number, SpellsText, to_line_feed, to_brace, to_crlf, to_end, text_byte, is_text_byte}
use Rattle.fluent_grammar.specs.Lines.{ends_line, pattern_ends, goes_on_at_column_zero, ends_behind_spaces}
use Rattle.fluent_grammar.specs.Blanks.{BlankLines, no_lines, ends_lf, ends_crlf, BlankBlock}
use Rattle.fluent_grammar.specs.Spelling.{BeginsText, IsPositional}
use Rattle.fluent_grammar.proofs.Got.{begins_is}
use Rattle.fluent_grammar.proofs.Cases.{cases}
use Rattle.fluent_grammar.proofs.Taken.{one-plus}
use Rattle.fluent_grammar.proofs.BlankWords.{line_end_sound, line_end_complete}
use Rattle.fluent_grammar.proofs.Blanks.{block-at, block-skipped, skip_spaces-other, not-false}
use Rattle.fluent_tidy_laws.proofs.Alike.{Alike, last, more, alike-front, alike-split, alike-begins, alike-some, alike-other, alike-crlf, alike-run, alike-no_end}
use Rattle.std.proofs.lemmas.Bool.Decides.{nat_tests}

pub name-moves : {name s r : Text} → SpellsName name s r → {a : ℕ} {x x' r' : Text} → Alike a x x' r r' → (s' : Text) × Alike a x x' s s' × SpellsName name s' r'
name-moves {name} {s} d {r' = r'} h =
    let g = alike-split s name d.run.split h in (
      name ++ r',
      g,
      record {
        letter_first = sym (alike-begins is_letter g) ∙ d.letter_first;
        run = record { split = refl; passing = d.run.passing; longest = sym (alike-begins is_name_byte h) ∙ d.run.longest };
      },
    )

pub digits-moves : {digits s r : Text} → SpellsDigits digits s r → {a : ℕ} {x x' r' : Text} → Alike a x x' r r' → (s' : Text) × Alike a x x' s s' × SpellsDigits digits s' r'
digits-moves {digits} {s} d {r' = r'} h =
    let g = alike-split s digits d.run.split h in (
      digits ++ r',
      g,
      record {
        digit_first = sym (alike-begins is_digit g) ∙ d.digit_first;
        run = record { split = refl; passing = d.run.passing; longest = sym (alike-begins is_digit h) ∙ d.run.longest };
      },
    )

pub unsigned-moves : {number s r : Text} → SpellsUnsigned number s r → {a : ℕ} {x x' r' : Text} → Alike a x x' r r' → (s' : Text) × Alike a x x' s s' × SpellsUnsigned number s' r'
unsigned-moves (whole d n) h = let e = digits-moves d h in (e.0, e.1, whole e.2 (sym (alike-begins (λ c. c == dot) h) ∙ n))
unsigned-moves (decimal d f) h = let g = digits-moves f h in let e = digits-moves d (more dot g.1) in (e.0, e.1, decimal e.2 g.2)

pub number-moves : {number s r : Text} → SpellsNumber number s r → {a : ℕ} {x x' r' : Text} → Alike a x x' r r' → (s' : Text) × Alike a x x' s s' × SpellsNumber number s' r'
number-moves (unsigned d) h = let e = unsigned-moves d h in (e.0, e.1, unsigned e.2)
number-moves (negative d) h = let e = unsigned-moves d h in (hyphen ∷ e.0, more hyphen e.1, negative e.2)

alike-hex : {a : ℕ} {x x' s s' : Text} (n : ℕ) → is_hex_digit a ≡ false → Alike a x x' s s' → hex_digits n s ≡ true → hex_digits n s' ≡ true
unfolding hex_digits
alike-hex n k h e = rw (← alike-run is_hex_digit k h) e

pub string-moves : {raw s r : Text} → SpellsString raw s r → {a : ℕ} {x x' r' : Text} → is_hex_digit a ≡ false → Alike a x x' r r' → (s' : Text) × Alike a x x' s s' × SpellsString raw s' r'
string-moves closing_quote {r' = r'} k h = (quote ∷ r', more quote h, closing_quote)
string-moves (plain_byte {c} p d) k h = let e = string-moves d k h in (c ∷ e.0, more c e.1, plain_byte p e.2)
string-moves (escaped_backslash d) k h = let e = string-moves d k h in (_, more _ (more _ e.1), escaped_backslash e.2)
string-moves (escaped_quote d) k h = let e = string-moves d k h in (_, more _ (more _ e.1), escaped_quote e.2)
string-moves (four_digits n d) k h = let e = string-moves d k h in (_, more _ (more _ e.1), four_digits (alike-hex 4 k e.1 n) e.2)
string-moves (six_digits n d) k h = let e = string-moves d k h in (_, more _ (more _ e.1), six_digits (alike-hex 6 k e.1 n) e.2)

pub accessor-moves : {attribute : Option Text} {s r : Text} → SpellsAccessor attribute s r → {a : ℕ} {x x' r' : Text} → Alike a x x' r r' → (s' : Text) × Alike a x x' s s' × SpellsAccessor attribute s' r'
accessor-moves (no_accessor n) {r' = r'} h = (r', h, no_accessor (sym (alike-begins (λ c. c == dot) h) ∙ n))
accessor-moves (an_accessor d) h = let e = name-moves d h in (dot ∷ e.0, more dot e.1, an_accessor e.2)

pub key-moves : {key : t.VariantKey} {s r : Text} → SpellsKey key s r → {a : ℕ} {x x' r' : Text} → Alike a x x' r r' → (s' : Text) × Alike a x x' s s' × SpellsKey key s' r'
key-moves (number_key d) h = let e = number-moves d h in (e.0, e.1, number_key e.2)
key-moves (identifier_key d) h = let e = name-moves d h in (e.0, e.1, identifier_key e.2)

pub literal-moves : {i : t.Inline} {s r : Text} → SpellsLiteral i s r → {a : ℕ} {x x' r' : Text} → is_hex_digit a ≡ false → Alike a x x' r r' → (s' : Text) × Alike a x x' s s' × SpellsLiteral i s' r'
literal-moves (a_string d) k h = let e = string-moves d k h in (quote ∷ e.0, more quote e.1, a_string e.2)
literal-moves (a_number d) k h = let e = number-moves d h in (e.0, e.1, a_number e.2)

-- a line end
pub line_end-moves : {s r : Text} → SpellsLineEnd s r → {a : ℕ} {x x' r' : Text} → Alike a x x' r r' → (s' : Text) × Alike a x x' s s' × SpellsLineEnd s' r'
line_end-moves lf h = (_, more _ h, lf)
line_end-moves crlf h = (_, more _ (more _ h), crlf)

pub back-line_end : {a : ℕ} {x x' r' : Text} (s r : Text) → after_line_end s ≡ Some r → Alike a x x' r r' → (s' : Text) × Alike a x x' s s' × (after_line_end s' ≡ Some r')
back-line_end s r e h = let d = line_end-moves (line_end_sound s r e) h in (d.0, d.1, line_end_complete d.2)

pub positional-moves : (e : t.Inline) (u u' : Text) → IsPositional e u → begins_with colon u ≡ begins_with colon u' → IsPositional e u'
positional-moves (t.string_literal s) u u' p h = tt
positional-moves (t.number_literal s) u u' p h = tt
positional-moves (t.function_reference s a) u u' p h = tt
positional-moves (t.message_reference s None) u u' p h = sym h ∙ p
positional-moves (t.message_reference s (Some a)) u u' p h = tt
positional-moves (t.term_reference s a c) u u' p h = tt
positional-moves (t.variable_reference s) u u' p h = tt
positional-moves (t.nested e) u u' p h = tt

-- ---- texts

brace-spelled : (s : Text) → begins_with open_brace s ≡ true → SpellsText [] s s
brace-spelled s e = rw (begins_is open_brace s e) to_brace

pub text-moves : {piece s r : Text} → SpellsText piece s r → {a : ℕ} {x x' r' : Text} → (a == carriage_return) ≡ false → Alike a x x' r r' →
    (s' : Text) × Alike a x x' s s' × SpellsText piece s' r'
text-moves to_line_feed {r' = r'} n h = (_, more _ h, to_line_feed)
text-moves to_brace {r' = r'} n h = (r', h, brace-spelled r' (sym (alike-begins (λ c. c == open_brace) h)))
text-moves (to_crlf k) {r' = r'} n h = (r', h, to_crlf (sym (alike-crlf n h) ∙ k))
text-moves to_end n h = absurd (alike-some h refl)
text-moves (text_byte {c} k b d) n h = let e = text-moves d n h in (c ∷ e.0, more c e.1, text_byte k (sym (alike-crlf n (more c e.1)) ∙ b) e.2)

-- the texts are the same, or alike up to a line feed
pub data Same (rest rest' : Text) : Text → Text → Type 0 where
  here : Same rest rest' rest rest'
  there : {s s' : Text} → Alike line_feed rest rest' s s' → Same rest rest' s s'

pub same-feed : {x x' s s' : Text} → Same x x' s s' → Alike line_feed x x' (line_feed ∷ s) (line_feed ∷ s')
same-feed here = last
same-feed (there h) = more _ h

pub not_feed : (c : ℕ) → is_text_byte c ≡ true → (c == line_feed) ≡ false
not_feed c h = grind arith

ended-more : (c : ℕ) (piece : Text) → is_text_byte c ≡ true → ends_line (c ∷ piece) ≡ true → ends_line piece ≡ true
ended-more c [] k e = let n = not_feed c k in absurd cc
ended-more c (d ∷ ds) k e = e

-- a text that ends its line, before what follows
pub text-ended : {piece s r : Text} → SpellsText piece s r → {x x' r' : Text} → ends_line piece ≡ true → Same x x' r r' → (s' : Text) × Alike line_feed x x' s s' × SpellsText piece s' r'
text-ended to_line_feed e h = (_, same-feed h, to_line_feed)
text-ended to_brace e h = absurd cc
text-ended (to_crlf k) e h = absurd cc
text-ended to_end e h = absurd cc
text-ended (text_byte {c} {piece} k b d) e h =
    let g = text-ended d (ended-more c piece k e) h in (c ∷ g.0, more c g.1, text_byte k (sym (alike-crlf refl (more c g.1)) ∙ b) g.2)

pub begins_text-moves : {a : ℕ} {x x' s s' : Text} → (a == carriage_return) ≡ false → Alike a x x' s s' → BeginsText s → BeginsText s'
begins_text-moves n h b = record {
  not_end = alike-other h;
  no_brace = sym (alike-begins (λ c. c == open_brace) h) ∙ b.no_brace;
  no_crlf = sym (alike-crlf n h) ∙ b.no_crlf;
}

-- ---- the start of a line

pub pattern_ends-moves : {a : ℕ} {x x' : Text} (s s' : Text) → spaces s' ≡ spaces s → Alike a x x' s s' → Alike a x x' (skip_spaces s) (skip_spaces s') → pattern_ends s' ≡ pattern_ends s
pattern_ends-moves s s' e h k =
    let p : begins goes_on_at_column_zero s ≡ begins goes_on_at_column_zero s' = alike-begins goes_on_at_column_zero h in
    let q : begins ends_behind_spaces (skip_spaces s) ≡ begins ends_behind_spaces (skip_spaces s') = alike-begins ends_behind_spaces k in
    rw (← p, ← q, e) refl

-- A pattern is over here: at the end, or at a line start where it ends.
pub data Over : Text → Type 0 where
  over_end : Over []
  over_here : {s : Text} → skip_spaces s ≢ [] → pattern_ends s ≡ true → Over s

-- spaces at the front
pub skip_spaces-more : (c : ℕ) (s : Text) → (c == space) ≡ true → skip_spaces (c ∷ s) ≡ skip_spaces s
skip_spaces-more c s e = rw (e, one-plus (spaces s)) refl

pub alike-skip_spaces : {a : ℕ} {x x' s s' : Text} → (a == space) ≡ false → Alike a x x' s s' → Alike a x x' (skip_spaces s) (skip_spaces s')
alike-skip_spaces {a} {x} {x'} n last = rw (skip_spaces-other a x n, skip_spaces-other a x' n) last
alike-skip_spaces n (more {s} {s'} c h) = cases (c == space)
    (λ e. rw (skip_spaces-more c s e, skip_spaces-more c s' e) (alike-skip_spaces n h))
    (λ e. rw (skip_spaces-other c s e, skip_spaces-other c s' e) (more c h))

pub zero-spaces : (s : Text) → (spaces s == 0) ≡ true → skip_spaces s ≡ s
zero-spaces s e = let z : spaces s ≡ 0 = grind arith in rw z refl

-- what the bytes at a line's start aren't
no_end-at_zero : (s : Text) → begins goes_on_at_column_zero s ≡ false → after_line_end s ≡ None
no_end-at_zero [] e = refl
no_end-at_zero (c ∷ cs) e =
    let f : (c == line_feed) ≡ false = grind arith in
    let r : (c == carriage_return) ≡ false = grind arith in
    rw (f, r) refl

no_end-behind : (s : Text) → begins ends_behind_spaces s ≡ true → after_line_end s ≡ None
no_end-behind [] e = refl
no_end-behind (c ∷ cs) e =
    let f : (c == line_feed) ≡ false = grind arith in
    let r : (c == carriage_return) ≡ false = grind arith in
    rw (f, r) refl

ends-zero : (s : Text) → (spaces s == 0) ≡ true → pattern_ends s ≡ true → begins goes_on_at_column_zero s ≡ false
ends-zero s z e = not-false _ (rw z at e)

ends-behind : (s : Text) → (spaces s == 0) ≡ false → pattern_ends s ≡ true → begins ends_behind_spaces (skip_spaces s) ≡ true
ends-behind s z e = rw z at e

-- no blank line begins where a pattern is over
pub over-no_end : {s : Text} → Over s → after_line_end (skip_spaces s) ≡ None
over-no_end over_end = refl
over-no_end (over_here {s} n e) = cases (spaces s == 0)
    (λ z. rw (zero-spaces s z) (no_end-at_zero s (ends-zero s z e)))
    (λ z. no_end-behind (skip_spaces s) (ends-behind s z e))

pub alike-over : {a : ℕ} {x x' s s' : Text} → (a == space) ≡ false → Alike a x x' s s' → Over s → Over s'
alike-over n h over_end = absurd (alike-some h refl)
alike-over {s' = s'} n h (over_here {s} k e) =
    over_here (alike-other (alike-skip_spaces n h)) (pattern_ends-moves s s' (sym (alike-run (λ c. c == space) n h)) h (alike-skip_spaces n h) ∙ e)

-- ---- blank blocks and line ends before what is the same

blanks-same : {blanks : Text} → BlankLines blanks → {x x' s s' : Text} → Same x x' s s' → Same x x' (blanks ++ s) (blanks ++ s')
blanks-same no_lines h = h
blanks-same (ends_lf {more = m} n d) {s = s} {s' = s'} h =
    rw (append_assoc (replicate n space) (line_feed ∷ m) s, append_assoc (replicate n space) (line_feed ∷ m) s') (there (alike-front (replicate n space) (same-feed (blanks-same d h))))
blanks-same (ends_crlf {more = m} n d) {s = s} {s' = s'} h =
    rw (append_assoc (replicate n space) (carriage_return ∷ line_feed ∷ m) s, append_assoc (replicate n space) (carriage_return ∷ line_feed ∷ m) s') (there (alike-front (replicate n space) (more carriage_return (same-feed (blanks-same d h)))))

same-split : {x x' : Text} (s f y y' : Text) → s ≡ f ++ y → Same x x' (f ++ y) (f ++ y') → Same x x' s (f ++ y')
same-split s f y y' e h = rw e h

pub block-onto : {x x' y' : Text} (u : Text) → Same x x' (skip_blank_block u) y' → after_line_end (skip_spaces y') ≡ None →
    (u' : Text) × Same x x' u u' × (skip_blank_block u' ≡ y')
block-onto {y' = y'} u h none =
    let b = block-at u in
    let d : BlankBlock b.0 (b.0 ++ y') y' = record { split = refl; lines = b.1.lines; longest = none } in
    (b.0 ++ y', same-split u b.0 _ y' b.1.split (blanks-same b.1.lines h), block-skipped b.0 (b.0 ++ y') y' d)

line_end-onto : {s u : Text} → SpellsLineEnd s u → {x x' u' : Text} → Same x x' u u' → (s' : Text) × Alike line_feed x x' s s' × SpellsLineEnd s' u'
line_end-onto lf h = (_, same-feed h, lf)
line_end-onto crlf h = (_, more carriage_return (same-feed h), crlf)

pub end-onto : {x x' u' : Text} (s u : Text) → after_line_end s ≡ Some u → Same x x' u u' → (s' : Text) × Alike line_feed x x' s s' × (after_line_end s' ≡ Some u')
end-onto s u e h = let d = line_end-onto (line_end_sound s u e) h in (d.0, d.1, line_end_complete d.2)

pub same-no_end : {x x' s s' : Text} → Over x' → Same x x' s s' → after_line_end (skip_spaces s) ≡ None → after_line_end (skip_spaces s') ≡ None
same-no_end o here e = over-no_end o
same-no_end o (there h) e = alike-no_end refl (alike-skip_spaces refl h) e

pub blank-replicate : (k : ℕ) (s : Text) → skip_blank (replicate k space ++ s) ≡ skip_blank s
blank-replicate zero s = refl
blank-replicate (suc k) s = blank-replicate k s

pub name-feed : (c : ℕ) → is_name_byte c ≡ true → (c == line_feed) ≡ false
name-feed c e = grind (arith, nat_tests)

pub digit-feed : (c : ℕ) → is_digit c ≡ true → (c == line_feed) ≡ false
digit-feed c e = grind (arith, nat_tests)

pub text-split : {piece s u : Text} → SpellsText piece s u → s ≡ piece ++ u
text-split to_line_feed = refl
text-split to_brace = refl
text-split (to_crlf k) = refl
text-split to_end = refl
text-split (text_byte {c} k b d) = ap (λ z. c ∷ z) (text-split d)
