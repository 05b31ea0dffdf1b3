-- Words that are written are spelled.
use Rattle.std.proofs.Common.{◌≡◌, ℕ, Bool, true, false, [], ◌∷◌, ◌++◌, Some, refl, sym, ap, ◌∙◌, arith, append_assoc}
use Rattle.std.specs.Prelude.{◌==◌, ◌≢◌}
use Rattle.std.specs.List.{list_all, prefix_len}
use Rattle.std.proofs.lemmas.Bool.Decides.{nat_tests}
use Rattle.fluent_grammar.specs.Words.{Text, line_feed, quote, backslash, small_u, capital_u, dot, colon, open_paren, is_letter, is_digit, is_name_byte, is_hex_digit, begins, begins_with, skip_blank, hex_digits}
use Rattle.fluent_grammar.specs.Lexical.{SpellsName, SpellsDigits, SpellsUnsigned, whole, decimal, SpellsNumber, unsigned, negative, SpellsString, closing_quote, plain_byte, escaped_backslash, escaped_quote, four_digits, six_digits, SpellsAccessor, an_accessor}
use Rattle.fluent_grammar.specs.Written.{ends_line}
use Rattle.fluent_grammar.proofs.Words.{number_sound}
use Rattle.fluent_grammar.proofs.Strings.{string_sound}
use Rattle.fluent_tidy_laws.specs.WellFormed.{IsName, IsNumber, IsRaw}
use Rattle.fluent_tidy_laws.proofs.MovingWords.{name-feed, digit-feed}
use Rattle.fluent_grammar.proofs.LaidOut.{ends_line-append}

-- what may follow a name, a number or an expression that is written
pub record Follows (rest : Text) : Type 0 where
  pub no_name : begins is_name_byte rest ≡ false
  pub no_dot : begins_with dot rest ≡ false
  pub no_attribute : begins_with dot (skip_blank rest) ≡ false
  pub no_call : begins_with open_paren (skip_blank rest) ≡ false
  pub no_colon : begins_with colon (skip_blank rest) ≡ false

-- ---- names

first-letter : (name rest : Text) → begins is_letter name ≡ true → begins is_letter (name ++ rest) ≡ true
first-letter [] rest h = absurd cc
first-letter (c ∷ cs) rest h = h

pub name-written : (name rest : Text) → IsName name → begins is_name_byte rest ≡ false → SpellsName name (name ++ rest) rest
name-written name rest n h = record {
  letter_first = first-letter name rest n.letter_first;
  run = record { split = refl; passing = n.bytes; longest = h };
}

pub name-line : (name : Text) → list_all is_name_byte name ≡ true → ends_line false name ≡ false
name-line [] h = refl
name-line (c ∷ cs) h =
    let k : is_name_byte c ≡ true = grind arith in
    let m : list_all is_name_byte cs ≡ true = grind arith in
    rw (name-feed c k) (name-line cs m)

pub accessor-written : (name rest : Text) → IsName name → begins is_name_byte rest ≡ false → SpellsAccessor (Some name) (dot ∷ (name ++ rest)) rest
accessor-written name rest n h = an_accessor (name-written name rest n h)

-- ---- numbers

digit-name : (s : Text) → begins is_name_byte s ≡ false → begins is_digit s ≡ false
digit-name [] h = refl
digit-name (c ∷ cs) h = grind (arith, nat_tests)

first-digit : (digits u rest : Text) → begins is_digit (digits ++ u) ≡ true → digits ≢ [] → begins is_digit (digits ++ rest) ≡ true
first-digit [] u rest h k = absurd (k refl)
first-digit (c ∷ cs) u rest h k = h

some-digits : {digits s u : Text} → SpellsDigits digits s u → digits ≢ []
some-digits {digits} {s} {u} d e =
    let k : s ≡ u = d.run.split ∙ ap (λ z. z ++ u) e in
    let m : begins is_digit u ≡ true = ap (begins is_digit) (sym k) ∙ d.digit_first in
    let n : begins is_digit u ≡ false = d.run.longest in
    absurd cc

digits-onto : {digits s u : Text} → SpellsDigits digits s u → (rest : Text) → begins is_digit rest ≡ false → SpellsDigits digits (digits ++ rest) rest
digits-onto {digits} {s} {u} d rest h = record {
  digit_first = first-digit digits u rest (ap (begins is_digit) (sym d.run.split) ∙ d.digit_first) (some-digits d);
  run = record { split = refl; passing = d.run.passing; longest = h };
}

unsigned-at : {number s u rest : Text} → s ≡ u → SpellsUnsigned number u rest → SpellsUnsigned number s rest
unsigned-at e d = rw e d

unsigned-onto : {number s u : Text} → SpellsUnsigned number s u → (rest : Text) → begins is_digit rest ≡ false → begins_with dot rest ≡ false → SpellsUnsigned number (number ++ rest) rest
unsigned-onto (whole d n) rest h k = whole (digits-onto d rest h) k
unsigned-onto (decimal {digits} {fraction} d f) rest h k =
    unsigned-at (append_assoc digits (dot ∷ fraction) rest) (decimal (digits-onto d (dot ∷ (fraction ++ rest)) refl) (digits-onto f rest h))

pub number-onto : {number s u : Text} → SpellsNumber number s u → (rest : Text) → begins is_digit rest ≡ false → begins_with dot rest ≡ false → SpellsNumber number (number ++ rest) rest
number-onto (unsigned d) rest h k = unsigned (unsigned-onto d rest h k)
number-onto (negative d) rest h k = negative (unsigned-onto d rest h k)

pub number-written : (number rest : Text) → IsNumber number → begins is_name_byte rest ≡ false → begins_with dot rest ≡ false → SpellsNumber number (number ++ rest) rest
number-written number rest n h k = number-onto (number_sound _ _ _ n.read) rest (digit-name rest h) k

-- ---- strings

hex-more : (n : ℕ) (s rest : Text) → hex_digits n (s ++ quote ∷ []) ≡ true → hex_digits n (s ++ quote ∷ rest) ≡ true
unfolding hex_digits
hex-more n s rest h = rw (← hex-run s rest) h
  where
    hex-run : (s rest : Text) → prefix_len is_hex_digit (s ++ quote ∷ []) ≡ prefix_len is_hex_digit (s ++ quote ∷ rest)
    hex-run [] rest = refl
    hex-run (c ∷ cs) rest = rw (hex-run cs rest) refl

pub string-split : {raw s u : Text} → SpellsString raw s u → s ≡ raw ++ quote ∷ u
string-split closing_quote = refl
string-split (plain_byte {c} p d) = ap (λ z. c ∷ z) (string-split d)
string-split (escaped_backslash d) = ap (λ z. backslash ∷ backslash ∷ z) (string-split d)
string-split (escaped_quote d) = ap (λ z. backslash ∷ quote ∷ z) (string-split d)
string-split (four_digits h d) = ap (λ z. backslash ∷ small_u ∷ z) (string-split d)
string-split (six_digits h d) = ap (λ z. backslash ∷ capital_u ∷ z) (string-split d)

hex-onto : {raw s : Text} (n : ℕ) → SpellsString raw s [] → hex_digits n s ≡ true → (rest : Text) → hex_digits n (raw ++ quote ∷ rest) ≡ true
hex-onto {raw} n d h rest = hex-more n raw rest (rw (string-split d) at h)

string-onto : {raw s u : Text} → SpellsString raw s u → u ≡ [] → (rest : Text) → SpellsString raw (raw ++ quote ∷ rest) rest
string-onto closing_quote e rest = closing_quote
string-onto (plain_byte p d) e rest = plain_byte p (string-onto d e rest)
string-onto (escaped_backslash d) e rest = escaped_backslash (string-onto d e rest)
string-onto (escaped_quote d) e rest = escaped_quote (string-onto d e rest)
string-onto (four_digits h d) e rest = four_digits (hex-onto 4 (rw e at d) h rest) (string-onto d e rest)
string-onto (six_digits h d) e rest = six_digits (hex-onto 6 (rw e at d) h rest) (string-onto d e rest)

pub string-written : (raw rest : Text) → IsRaw raw → SpellsString raw (raw ++ quote ∷ rest) rest
string-written raw rest n = string-onto (string_sound _ _ _ n.read) refl rest

-- ---- a line feed in none of them

string-line : {raw s u : Text} → SpellsString raw s u → ends_line false raw ≡ false
string-line closing_quote = refl
string-line (plain_byte {c} p d) = let k : (c == line_feed) ≡ false = grind arith in rw k (string-line d)
string-line (escaped_backslash d) = string-line d
string-line (escaped_quote d) = string-line d
string-line (four_digits h d) = string-line d
string-line (six_digits h d) = string-line d

pub raw-line : (raw : Text) → IsRaw raw → ends_line false raw ≡ false
raw-line raw n = string-line (string_sound _ _ _ n.read)

digits-line : (before : Bool) (digits : Text) → list_all is_digit digits ≡ true → before ≡ false → ends_line before digits ≡ false
digits-line before [] h e = e
digits-line before (c ∷ cs) h e =
    let k : is_digit c ≡ true = grind arith in
    let m : list_all is_digit cs ≡ true = grind arith in
    digits-line (c == line_feed) cs m (digit-feed c k)

unsigned-line : {number s u : Text} → SpellsUnsigned number s u → ends_line false number ≡ false
unsigned-line (whole {digits} d n) = digits-line false digits d.run.passing refl
unsigned-line (decimal {digits} {fraction} d f) = ends_line-append false digits (dot ∷ fraction) ∙ digits-line false fraction f.run.passing refl

number-line-of : {number s u : Text} → SpellsNumber number s u → ends_line false number ≡ false
number-line-of (unsigned d) = unsigned-line d
number-line-of (negative d) = unsigned-line d

pub number-line : (number : Text) → IsNumber number → ends_line false number ≡ false
number-line number n = number-line-of (number_sound _ _ _ n.read)
