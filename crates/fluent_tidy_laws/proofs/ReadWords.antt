-- Words that are read are well formed, and ends of a source.
use Rattle.std.proofs.Common.{◌≡◌, ℕ, ◌<◌, Bool, true, false, cond, not, ◌&&◌, ◌||◌, [], ◌∷◌, ◌++◌, replicate, drop, Option, Some, None, refl, sym, ap, ◌∙◌, arith, append_assoc, append-nil}
use Rattle.std.specs.Prelude.{◌==◌, ◌≢◌, nat_le}
use Rattle.std.specs.List.{prefix_len}
use Rattle.std.specs.Str.{IsUtf8}
use Rattle.std.proofs.lemmas.Str.{IsUtf8-append, IsUtf8-nil, encode_ascii}
use Rattle.fluent_grammar.specs.Words.{Text, line_feed, carriage_return, space, quote, open_brace, close_brace, is_letter, is_name_byte, is_hex_digit, hex_digits, begins, begins_with, begins_crlf, spaces, skip_spaces, skip_blank_block, after_line_end}
use Rattle.fluent_grammar.specs.Tree as t
use Rattle.fluent_grammar.specs.Ends.{EndsIn}
use Rattle.fluent_grammar.specs.Blanks.{BlankLines, no_lines, ends_lf, ends_crlf}
use Rattle.fluent_grammar.specs.Lexical.{SpellsLineEnd, lf, crlf, SpellsName, SpellsNumber, SpellsString, closing_quote, plain_byte, escaped_backslash, escaped_quote, four_digits, six_digits, SpellsAccessor, no_accessor, an_accessor, SpellsKey, number_key, identifier_key, SpellsLiteral, a_string, a_number, SpellsText, to_line_feed, to_brace, to_crlf, to_end, text_byte, is_text_byte}
use Rattle.fluent_grammar.specs.Lines.{ends_line, is_blank_text, pattern_ends, goes_on_at_column_zero, ends_behind_spaces}
use Rattle.fluent_grammar.specs.Spelling.{BeginsText}
use Rattle.fluent_grammar.proofs.Cases.{cases, and-left, and-right}
use Rattle.fluent_grammar.proofs.Got.{same}
use Rattle.fluent_grammar.proofs.Runs.{run_counted}
use Rattle.fluent_grammar.proofs.Tiles.{front-blank}
use Rattle.fluent_grammar.proofs.BlankWords.{line_end_sound}
use Rattle.fluent_grammar.proofs.Words.{number_complete}
use Rattle.fluent_grammar.proofs.Strings.{string_complete}
use Rattle.fluent_grammar.proofs.Within.{end-trans}
use Rattle.fluent_tidy_laws.specs.Joined.{HasNoReturn}
use Rattle.fluent_tidy_laws.specs.WellFormed.{IsName, IsNumber, IsRaw, IsAttribute, IsKey, WellFormedLiteral, is_line}
use Rattle.fluent_tidy_laws.proofs.WrittenWords.{number-onto, string-split}
use Rattle.fluent_tidy_laws.proofs.TrimmedTexts.{ended}
use Rattle.fluent_tidy_laws.proofs.MovingWords.{skip_spaces-more, text-split}
use Rattle.fluent_tidy_laws.proofs.ReadLines.{IsPart, IsStart}
use Rattle.fluent_grammar.proofs.Lengths.{letter-in_name}
use Rattle.fluent_grammar.proofs.Blanks.{skip_spaces-other}
use Rattle.fluent_tidy_laws.proofs.TextParts.{begins-append, no_return-right, utf8-from, utf8-before, utf8-behind, utf8-tail}
use Rattle.fluent_tidy_laws.proofs.WrittenPieces.{no-spaces}

-- ---- words

some-name : {name s rest : Text} → SpellsName name s rest → name ≢ []
some-name {name} {s} {rest} d e =
    let k : s ≡ rest = d.run.split ∙ ap (λ z. z ++ rest) e in
    let m : begins is_name_byte rest ≡ true = ap (begins is_name_byte) (sym k) ∙ letter-in_name s d.letter_first in
    let n : begins is_name_byte rest ≡ false = d.run.longest in
    absurd (apart m n)
  where
    apart : {b : Bool} → b ≡ true → b ≡ false → ⊥
    apart m n = let k : true ≡ false = sym m ∙ n in absurd cc

pub name-well_formed : {name s rest : Text} → SpellsName name s rest → IsName name
name-well_formed {name} {s} {rest} d = record {
  letter_first = sym (begins-append is_letter name rest (some-name d)) ∙ ap (begins is_letter) (sym d.run.split) ∙ d.letter_first;
  bytes = d.run.passing;
}

pub number-well_formed : {number s rest : Text} → SpellsNumber number s rest → IsNumber number
number-well_formed d = record { read = number_complete (number-onto d (close_brace ∷ []) refl refl) }

pub accessor-well_formed : {attribute : Option Text} {s rest : Text} → SpellsAccessor attribute s rest → IsAttribute attribute
accessor-well_formed (no_accessor n) = tt
accessor-well_formed (an_accessor d) = name-well_formed d

pub key-well_formed : {key : t.VariantKey} {s rest : Text} → SpellsKey key s rest → IsKey key
key-well_formed (number_key d) = number-well_formed d
key-well_formed (identifier_key d) = name-well_formed d

-- before another quote there are as many hex digits
hex-run : (s u : Text) → prefix_len is_hex_digit (s ++ quote ∷ u) ≡ prefix_len is_hex_digit (s ++ quote ∷ [])
hex-run [] u = refl
hex-run (c ∷ cs) u = rw (hex-run cs u) refl

hex-back : (n : ℕ) (raw s u : Text) → s ≡ raw ++ quote ∷ u → hex_digits n s ≡ true → hex_digits n (raw ++ quote ∷ []) ≡ true
unfolding hex_digits
hex-back n raw s u e h = ap (nat_le n) (sym (hex-run raw u)) ∙ ap (λ z. nat_le n (prefix_len is_hex_digit z)) (sym e) ∙ h

raw-again : {raw s u : Text} → SpellsString raw s u → SpellsString raw (raw ++ quote ∷ []) []
raw-again closing_quote = closing_quote
raw-again (plain_byte p d) = plain_byte p (raw-again d)
raw-again (escaped_backslash d) = escaped_backslash (raw-again d)
raw-again (escaped_quote d) = escaped_quote (raw-again d)
raw-again (four_digits {raw} {s} {rest} h d) = four_digits (hex-back 4 raw s rest (string-split d) h) (raw-again d)
raw-again (six_digits {raw} {s} {rest} h d) = six_digits (hex-back 6 raw s rest (string-split d) h) (raw-again d)

pub raw-well_formed : {raw s rest : Text} → SpellsString raw s rest → IsRaw raw
raw-well_formed d = record { read = string_complete (raw-again d) }

pub literal-well_formed : {e : t.Inline} {s rest : Text} → SpellsLiteral e s rest → WellFormedLiteral e
literal-well_formed (a_string d) = raw-well_formed d
literal-well_formed (a_number d) = number-well_formed d

-- ---- ends of a source

-- the end of a text of UTF-8 without carriage returns
pub record Sound (s : Text) : Type 0 where
  pub source : Text
  pub utf8 : IsUtf8 source
  pub no_return : HasNoReturn source
  pub within : EndsIn s source

pub sound-end : {s u : Text} → EndsIn u s → Sound s → Sound u
sound-end e d = record { source = d.source; utf8 = d.utf8; no_return = d.no_return; within = end-trans e d.within }

-- after an ASCII byte
pub sound-behind : (c : ℕ) (s : Text) → Sound (c ∷ s) → c < 128 → IsUtf8 s
sound-behind c s d lt = let u : IsUtf8 (d.within.front ++ c ∷ s) = rw (← d.within.whole) d.utf8 in utf8-behind d.within.front c s u lt

pub sound-no_return : {s : Text} → Sound s → HasNoReturn s
sound-no_return {s} d = let h : HasNoReturn (d.within.front ++ s) = rw (← d.within.whole) d.no_return in no_return-right d.within.front s h

pub no-crlf : (s : Text) → HasNoReturn s → begins_crlf s ≡ false
no-crlf [] h = refl
no-crlf (c ∷ cs) h = by (c == carriage_return) (and-left _ _ h)
  where
    by : (b : Bool) → not b ≡ true → (b && begins_with line_feed cs) ≡ false
    by true h = absurd cc
    by false h = refl

-- ---- the text of a piece

line-cons : (c : ℕ) (x : Text) → is_text_byte c ≡ true → not (c == carriage_return) ≡ true → is_line x ≡ true → is_line (c ∷ x) ≡ true
line-cons c [] h k l = rw (h, k) (or-true (c == line_feed))
  where
    or-true : (b : Bool) → (b || true) ≡ true
    or-true true = refl
    or-true false = refl
line-cons c (d ∷ ds) h k l = rw (h, k) l

text-line : {x s u : Text} → SpellsText x s u → HasNoReturn s → is_line x ≡ true
text-line to_line_feed r = refl
text-line to_brace r = refl
text-line (to_crlf h) r = refl
text-line to_end r = refl
text-line (text_byte {c} {piece} h n d) r = line-cons c piece h (and-left _ _ r) (text-line d (and-right _ _ r))

-- what is after it
pub data Stop : Text → Text → Type 0 where
  at_feed : {x u : Text} → ends_line x ≡ true → Stop x u
  at_brace : {x : Text} (u : Text) → ends_line x ≡ false → Stop x (open_brace ∷ u)
  at_end : {x : Text} → ends_line x ≡ false → Stop x []

ends-cons : (c : ℕ) (x : Text) → is_text_byte c ≡ true → ends_line (c ∷ x) ≡ ends_line x
ends-cons c [] h = no-feed c h
  where
    no-feed : (c : ℕ) → is_text_byte c ≡ true → (c == line_feed) ≡ false
    no-feed c h = grind arith
ends-cons c (d ∷ ds) h = refl

stop-cons : (c : ℕ) {x u : Text} → is_text_byte c ≡ true → Stop x u → Stop (c ∷ x) u
stop-cons c {x} h (at_feed e) = at_feed (ends-cons c x h ∙ e)
stop-cons c {x} h (at_brace u e) = at_brace u (ends-cons c x h ∙ e)
stop-cons c {x} h (at_end e) = at_end (ends-cons c x h ∙ e)

text-stops : {x s u : Text} → SpellsText x s u → HasNoReturn s → Stop x u
text-stops to_line_feed r = at_feed refl
text-stops to_brace r = at_brace _ refl
text-stops {u = u} (to_crlf h) r = absurd (let k : true ≡ false = sym h ∙ no-crlf u r in cc)
text-stops to_end r = at_end refl
text-stops (text_byte {c} h n d) r = stop-cons c h (text-stops d (and-right _ _ r))

-- both parts are UTF-8
pub record Parted (x u : Text) : Type 0 where
  pub text : IsUtf8 x
  pub rest : IsUtf8 u

feed-utf8 : IsUtf8 (line_feed ∷ [])
feed-utf8 = (line_feed ∷ [], (refl, ap (λ z. z ++ []) (encode_ascii line_feed (omega arith))))

parted-feed : (p u : Text) → IsUtf8 ((p ++ line_feed ∷ []) ++ u) → Parted (p ++ line_feed ∷ []) u
parted-feed p u h =
    let k : IsUtf8 (p ++ line_feed ∷ u) = rw (append_assoc p (line_feed ∷ []) u) at h in
    record { text = IsUtf8-append p (line_feed ∷ []) (utf8-before p line_feed u k (omega arith)) feed-utf8; rest = utf8-behind p line_feed u k (omega arith) }

pub parted : {x u : Text} → Stop x u → IsUtf8 (x ++ u) → Parted x u
parted {x} {u} (at_feed e) h =
    let p = ended x e in
    let k : IsUtf8 ((p.0 ++ line_feed ∷ []) ++ u) = rw (← p.1) h in
    rw p.1 (parted-feed p.0 u k)
parted {x} (at_brace v e) h = record { text = utf8-before x open_brace v h (omega arith); rest = utf8-from x open_brace v h (omega arith) }
parted {x} (at_end e) h = record { text = rw (append-nil x) at h; rest = IsUtf8-nil }

-- a text piece, where one begins
pub record TextRead (x s u : Text) : Type 0 where
  pub split : s ≡ x ++ u
  pub part : IsPart x
  pub stop : Stop x u
  pub rest : IsUtf8 u

text-some : {x s u : Text} → SpellsText x s u → BeginsText s → HasNoReturn s → x ≢ []
text-some to_line_feed b r = λ e. cc
text-some to_brace b r = absurd (let k : true ≡ false = b.no_brace in cc)
text-some {u = u} (to_crlf h) b r = absurd (let k : true ≡ false = sym h ∙ no-crlf u r in cc)
text-some to_end b r = absurd (b.not_end refl)
text-some (text_byte h n d) b r = λ e. cc

pub text-read : {x s u : Text} → SpellsText x s u → BeginsText s → Sound s → IsUtf8 s → TextRead x s u
text-read {x} {s} {u} d b sound utf8 =
    let r = sound-no_return sound in
    let p = parted (text-stops d r) (rw (text-split d) at utf8) in
    record { split = text-split d; part = record { utf8 = p.text; line = text-line d r; some = text-some d b r }; stop = text-stops d r; rest = p.rest }

-- ---- spaces and blank lines before a text

pub spaces-utf8 : (s : Text) → IsUtf8 s → IsUtf8 (skip_spaces s)
spaces-utf8 [] u = u
spaces-utf8 (c ∷ cs) u = cases (c == space)
    (λ h. rw (skip_spaces-more c cs h) (spaces-utf8 cs (utf8-tail c cs u (space-ascii c h))))
    (λ h. rw (skip_spaces-other c cs h) u)
  where
    space-ascii : (c : ℕ) → (c == space) ≡ true → c < 128
    space-ascii c h = omega (arith, same c space h)

lines-utf8 : {blanks : Text} → BlankLines blanks → (r : Text) → IsUtf8 (blanks ++ r) → IsUtf8 r
lines-utf8 no_lines r u = u
lines-utf8 (ends_lf {more} n d) r u =
    let k : IsUtf8 (replicate n space ++ line_feed ∷ (more ++ r)) = rw (append_assoc (replicate n space) (line_feed ∷ more) r) at u in
    lines-utf8 d r (utf8-behind (replicate n space) line_feed (more ++ r) k (omega arith))
lines-utf8 (ends_crlf {more} n d) r u =
    let k : IsUtf8 (replicate n space ++ carriage_return ∷ line_feed ∷ (more ++ r)) = rw (append_assoc (replicate n space) (carriage_return ∷ line_feed ∷ more) r) at u in
    lines-utf8 d r (utf8-tail line_feed (more ++ r) (utf8-behind (replicate n space) carriage_return (line_feed ∷ (more ++ r)) k (omega arith)) (omega arith))

pub block-utf8 : (s : Text) → IsUtf8 s → IsUtf8 (skip_blank_block s)
block-utf8 s u = let b = front-blank s in lines-utf8 b.lines (skip_blank_block s) (rw b.split at u)

line_end-utf8 : {s u : Text} → SpellsLineEnd s u → IsUtf8 s → IsUtf8 u
line_end-utf8 {u = u} lf h = utf8-tail line_feed u h (omega arith)
line_end-utf8 {u = u} crlf h = utf8-tail line_feed u (utf8-tail carriage_return (line_feed ∷ u) h (omega arith)) (omega arith)

pub after_line_end-utf8 : (s u : Text) → after_line_end s ≡ Some u → IsUtf8 s → IsUtf8 u
after_line_end-utf8 s u e h = line_end-utf8 (line_end_sound s u e) h

-- ---- a text that begins a pattern

pub spaces-over : (s : Text) → begins_with space (skip_spaces s) ≡ false
spaces-over s = (run_counted (λ c. c == space) s).longest

no_end-no_feed : (s : Text) → after_line_end s ≡ None → begins_with line_feed s ≡ false
no_end-no_feed [] h = refl
no_end-no_feed (c ∷ cs) h = by (c == line_feed) h
  where
    by : (b : Bool) → cond b (Some cs) (cond (begins_crlf (c ∷ cs)) (Some (drop 2 (c ∷ cs))) None) ≡ None → b ≡ false
    by true h = absurd cc
    by false h = refl

-- it isn't blank, and begins without a space
shown : (x u : Text) → x ≢ [] → begins_with space (x ++ u) ≡ false → begins_with line_feed (x ++ u) ≡ false → (is_blank_text x ≡ false) × (spaces x ≡ 0)
shown [] u some h k = absurd (some refl)
shown (c ∷ cs) u some h k = (rw (h, k) refl, rw h refl)

pub text-shown : {x s u : Text} → TextRead x s u → begins_with space s ≡ false → after_line_end s ≡ None → (is_blank_text x ≡ false) × (spaces x ≡ 0)
text-shown {x} {s} {u} d h k = shown x u d.part.some (ap (begins_with space) (sym d.split) ∙ h) (ap (begins_with line_feed) (sym d.split) ∙ no_end-no_feed s k)

-- at a line start where the pattern goes on
goes-on-here : (s : Text) → begins goes_on_at_column_zero s ≡ true → begins ends_behind_spaces s ≡ false
goes-on-here [] h = refl
goes-on-here (c ∷ cs) h = grind arith

pattern-on : (s : Text) → pattern_ends s ≡ false → begins ends_behind_spaces (skip_spaces s) ≡ false
pattern-on s h = by (spaces s == 0) refl h
  where
    by : (b : Bool) → (spaces s == 0) ≡ b → cond b (not (begins goes_on_at_column_zero s)) (begins ends_behind_spaces (skip_spaces s)) ≡ false → begins ends_behind_spaces (skip_spaces s) ≡ false
    by true e k = ap (begins ends_behind_spaces) (no-spaces s (same (spaces s) 0 e)) ∙ goes-on-here s (not-false (begins goes_on_at_column_zero s) k)
      where
        not-false : (x : Bool) → not x ≡ false → x ≡ true
        not-false true h = refl
        not-false false h = absurd cc
    by false e k = k

start-flush : (x u : Text) → x ≢ [] → begins_with space (x ++ u) ≡ false → spaces x ≡ 0
start-flush [] u some h = absurd (some refl)
start-flush (c ∷ cs) u some h = rw h refl

pub start-read : {x u : Text} (s : Text) → TextRead x (skip_spaces s) u → pattern_ends s ≡ false → IsStart x
start-read {x} {u} s d h = record {
  part = d.part;
  flush = start-flush x u d.part.some (ap (begins_with space) (sym d.split) ∙ spaces-over s);
  goes_on = sym (begins-append ends_behind_spaces x u d.part.some) ∙ ap (begins ends_behind_spaces) (sym d.split) ∙ pattern-on s h;
}
