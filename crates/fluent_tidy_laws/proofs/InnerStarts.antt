-- Within a message or a term, a place at column 0 where another could begin is within a placeable: there no entry is read, since no
-- equals sign follows a name, and what is refused stops before the entry's end.
use Rattle.std.proofs.Common.{◌≡◌, ℕ, zero, suc, Bool, true, false, ◌&&◌, ◌||◌, List, [], ◌∷◌, ◌++◌, drop, replicate, Option, refl, sym, ap, ◌∙◌, arith, append_assoc}
use Rattle.std.specs.Prelude.{◌==◌}
use Rattle.std.specs.List.{list_all}
use Rattle.std.proofs.lemmas.Bool.Decides.{nat_tests}
use Rattle.fluent_grammar.specs.Words.{Text, line_feed, carriage_return, space, comma, equals, hyphen, dot, colon, dollar, quote, greater, asterisk, backslash, open_paren, close_paren, open_bracket, close_bracket, open_brace, close_brace, small_u, capital_u, is_letter, is_digit, is_name_byte, begins, begins_with, begins_entry, skip_blank, skip_spaces, skip_separator, skip_blank_block}
use Rattle.fluent_grammar.specs.Refusal.{Refusal, Reading, got, refused, refuse, ◌>>=◌}
use Rattle.fluent_grammar.specs.Refusal as kinds
use Rattle.fluent_grammar.specs.Tree as t
use Rattle.fluent_grammar.specs.Reading as g
use Rattle.fluent_grammar.specs.Reading.{entry_at}
use Rattle.fluent_grammar.specs.Lines.{Piece, ends_line, pattern_ends}
use Rattle.fluent_grammar.specs.Blanks.{BlankLines, no_lines, ends_lf, ends_crlf}
use Rattle.fluent_grammar.specs.Tiling.{at_column_zero}
use Rattle.fluent_grammar.specs.Lexical.{SpellsName, SpellsDigits, SpellsUnsigned, whole, decimal, SpellsNumber, unsigned, negative, SpellsString, closing_quote, plain_byte, escaped_backslash, escaped_quote, four_digits, six_digits, SpellsAccessor, no_accessor, an_accessor, SpellsKey, number_key, identifier_key, SpellsLiteral, a_string, a_number, SpellsText, to_line_feed, to_brace, to_crlf, to_end, text_byte, SpellsLineEnd, lf, crlf, is_plain, is_text_byte}
use Rattle.fluent_grammar.specs.Spelling.{SpellsInline, a_string_literal, a_number_literal, a_variable_reference, a_term_reference, a_message_reference, a_function_reference, a_placeable, SpellsMaybeArguments, no_call, a_call, SpellsArguments, no_more, positional, named, SpellsPlaceable, in_braces, SpellsExpression, an_inline, a_select, SpellsVariants, all_read, lone_mark, a_variant, the_default, SpellsVariant, keyed, SpellsPattern, on_the_line, on_the_next, SpellsPieces, nothing_left, crlf_piece, text_piece, placeable_piece, SpellsLine, only_spaces_left, pattern_over, line_of_text, line_of_placeable, line_of_crlf, SpellsBehindText, next_line, same_line, SpellsHead, a_head, SpellsAttribute, an_attribute, SpellsAttributes, no_more_attributes, one_more_attribute, SpellsEntry, a_message, a_term, a_comment, a_group_comment, a_resource_comment}
use Rattle.fluent_grammar.proofs.Cases.{cases, and-left, and-right}
use Rattle.fluent_grammar.proofs.Got.{same, begins_is}
use Rattle.fluent_grammar.proofs.BlankWords.{line_end_sound}
use Rattle.fluent_grammar.proofs.Blanks.{block-at, skip_spaces-other}
use Rattle.fluent_grammar.proofs.Entries.{entry-of_letter, entry-of_hyphen}
use Rattle.fluent_grammar.proofs.Words.{name_complete, unsigned-digit}
use Rattle.fluent_tidy_laws.proofs.MovingPatterns.{crlf-text}
use Rattle.fluent_tidy_laws.proofs.MovingWords.{Over, over_end, over_here, skip_spaces-more, name-feed, digit-feed}
use Rattle.fluent_tidy_laws.proofs.MovingEntries.{stops_here, stops-over, IsListed}
use Rattle.fluent_tidy_laws.proofs.ReadersGoOn.{named-equals}
use Rattle.fluent_grammar.proofs.Lengths.{letter-in_name}
use Rattle.fluent_tidy_laws.proofs.Alike.{separator-none}
use Rattle.fluent_grammar.proofs.TilesRecovery.{column-snoc}
use Rattle.fluent_grammar.proofs.TilesRuntime.{return-begins-none}
use Rattle.fluent_grammar.proofs.Complete.{digit-no_letter}

-- ---- places

-- through bytes but line feeds
pub data Through (u : Text) : Text → Type 0 where
  through_here : Through u u
  through_byte : {s : Text} (c : ℕ) → (c == line_feed) ≡ false → Through u s → Through u (c ∷ s)

pub column-through : {u s : Text} (front : Text) (c : ℕ) → (c == line_feed) ≡ false → Through u s → at_column_zero (front ++ (c ∷ s)) u ≡ false
column-through {u} front c e through_here = ap (λ z. at_column_zero z u) (sym (append_assoc front (c ∷ []) u)) ∙ column-snoc front c u ∙ e
column-through {u} front c e (through_byte {s} d k h) = ap (λ z. at_column_zero z u) (sym (append_assoc front (c ∷ []) (d ∷ s))) ∙ column-through (front ++ (c ∷ [])) d k h

-- a byte, and others, before a place on the same line
pub record On_line (u s : Text) : Type 0 where
  pub first : ℕ
  pub more : Text
  pub whole : s ≡ first ∷ more
  pub no_feed : (first == line_feed) ≡ false
  pub through : Through u more

-- ---- texts whose inner starts read no entry

mutual
  -- up to a rest, which is empty or is after a line feed
  pub data EntryFree (rest : Text) : Text → Type 0 where
    free_end : rest ≡ [] → EntryFree rest []
    free_byte : {s : Text} (c : ℕ) → (c == line_feed) ≡ false → EntryFree rest s → EntryFree rest (c ∷ s)
    free_feed : {s : Text} → EntryFreeStart rest s → EntryFree rest (line_feed ∷ s)

  -- at column 0
  pub data EntryFreeStart (rest : Text) : Text → Type 0 where
    start_rest : EntryFreeStart rest rest
    start_quiet : {s : Text} → begins begins_entry s ≡ false → EntryFree rest s → EntryFreeStart rest s
    start_refused : {s : Text} {fault : Refusal} → entry_at s ≡ refused fault → On_line fault.at s → EntryFree rest fault.at → EntryFree rest s → EntryFreeStart rest s

record EntryFreePlace (rest s : Text) : Type 0 where
  free : EntryFree rest s
  start : EntryFreeStart rest s

quiet : {rest : Text} {s : Text} → begins begins_entry s ≡ false → EntryFree rest s → EntryFreePlace rest s
quiet e c = record { free = c; start = start_quiet e c }

free-at : {rest s u : Text} → s ≡ u → EntryFree rest u → EntryFree rest s
free-at e c = rw e c

start-at : {rest s u : Text} → s ≡ u → EntryFreeStart rest u → EntryFreeStart rest s
start-at e c = rw e c

place-at : {rest s u : Text} → s ≡ u → EntryFreePlace rest u → EntryFreePlace rest s
place-at e c = rw e c

feed-at : {rest s : Text} (c : ℕ) → (c == line_feed) ≡ true → EntryFreeStart rest s → EntryFree rest (c ∷ s)
feed-at c e r = rw (same c line_feed e) (free_feed r)

pub free-through : {rest u s : Text} → Through u s → EntryFree rest s → EntryFree rest u
free-through through_here c = c
free-through (through_byte c e h) (free_byte d k m) = free-through h m
free-through (through_byte c e h) (free_feed r) = absurd cc

-- spaces
free-spaces : (s : Text) {rest : Text} → EntryFree rest s → EntryFree rest (skip_spaces s)
free-spaces [] c = c
free-spaces (d ∷ s) (free_byte c e k) = cases (d == space)
    (λ b. free-at (skip_spaces-more d s b) (free-spaces s k))
    (λ b. free-at (skip_spaces-other d s b) (free_byte d e k))
free-spaces (d ∷ s) (free_feed r) = free_feed r

space-byte : (c : ℕ) → (c == space) ≡ true → (c == line_feed) ≡ false
space-byte c e = grind (arith, nat_tests)

spaces-back : (s : Text) {rest : Text} → EntryFree rest (skip_spaces s) → EntryFree rest s
spaces-back [] c = c
spaces-back (d ∷ s) c = cases (d == space)
    (λ b. free_byte d (space-byte d b) (spaces-back s (free-at (sym (skip_spaces-more d s b)) c)))
    (λ b. free-at (sym (skip_spaces-other d s b)) c)

-- a text that begins with blank begins no entry
blank-first : (c : ℕ) → (c == space || c == line_feed) ≡ true → begins_entry c ≡ false
blank-first c e = grind (arith, nat_tests)

return-byte : (c : ℕ) → (c == carriage_return) ≡ true → (c == line_feed) ≡ false
return-byte c e = grind (arith, nat_tests)

skip-one : (c : ℕ) (s : Text) → (c == space || c == line_feed) ≡ true → skip_blank (c ∷ s) ≡ skip_blank s
skip-one c s e = rw e refl

skip-return : (c : ℕ) (s : Text) → (c == space || c == line_feed) ≡ false → (c == carriage_return && begins_with line_feed s) ≡ true → skip_blank (c ∷ s) ≡ skip_blank s
skip-return c s e k = rw (e, k) refl

skip-none : (c : ℕ) (s : Text) → (c == space || c == line_feed) ≡ false → (c == carriage_return && begins_with line_feed s) ≡ false → skip_blank (c ∷ s) ≡ c ∷ s
skip-none c s e k = rw (e, k) refl

blank-place : (s : Text) {rest : Text} → EntryFreePlace rest (skip_blank s) → EntryFreePlace rest s
blank-place [] i = i
blank-place (c ∷ s) i = cases (c == space || c == line_feed)
    (λ e. let j = blank-place s (place-at (sym (skip-one c s e)) i) in cases (c == line_feed)
    (λ f. quiet (blank-first c e) (feed-at c f j.start))
    (λ f. quiet (blank-first c e) (free_byte c f j.free)))
    (λ e. cases (c == carriage_return && begins_with line_feed s)
    (λ k. let j = blank-place s (place-at (sym (skip-return c s e k)) i) in let r = and-left (c == carriage_return) _ k in quiet (return-begins-none c r) (free_byte c (return-byte c r) j.free))
    (λ k. place-at (sym (skip-none c s e k)) i))

-- what no equals sign follows, after blank
abbrev NotEquals : Text → Type 0
NotEquals s = begins_with equals (skip_blank s) ≡ false

equals-here : (s : Text) → NotEquals s → begins_with equals s ≡ false
equals-here s n = cases (begins_with equals s)
    (λ b. absurd (let k : begins_with equals (skip_blank s) ≡ true = ap (λ z. begins_with equals (skip_blank z)) (begins_is equals s b) in cc))
    (λ b. b)

equals-spaces : (s : Text) → NotEquals s → begins_with equals (skip_spaces s) ≡ false
equals-spaces s n = cases (begins_with equals (skip_spaces s))
    (λ b. absurd (let k : begins_with equals (skip_blank s) ≡ true = ap (begins_with equals) (named-equals s (drop 1 (skip_spaces s)) (begins_is equals (skip_spaces s) b)).1 in cc))
    (λ b. b)

equals-back : (s : Text) → NotEquals (skip_blank s) → NotEquals s
equals-back s n = equals-here (skip_blank s) n

-- ---- words

run-free : {rest r : Text} (p : ℕ → Bool) → ((c : ℕ) → p c ≡ true → (c == line_feed) ≡ false) → (run : Text) → list_all p run ≡ true → EntryFree rest r → EntryFree rest (run ++ r)
run-free p f [] h c = c
run-free p f (d ∷ ds) h c = free_byte d (f d (and-left (p d) _ h)) (run-free p f ds (and-right (p d) _ h) c)

run-through : {u r : Text} (p : ℕ → Bool) → ((c : ℕ) → p c ≡ true → (c == line_feed) ≡ false) → (run : Text) → list_all p run ≡ true → Through u r → Through u (run ++ r)
run-through p f [] h c = c
run-through p f (d ∷ ds) h c = through_byte d (f d (and-left (p d) _ h)) (run-through p f ds (and-right (p d) _ h) c)

spaces-through : (s : Text) → Through (skip_spaces s) s
spaces-through [] = through_here
spaces-through (c ∷ s) = cases (c == space)
    (λ b. through-to (skip_spaces-more c s b) (through_byte c (space-byte c b) (spaces-through s)))
    (λ b. through-to (skip_spaces-other c s b) through_here)
  where
    through-to : {u v s : Text} → u ≡ v → Through v s → Through u s
    through-to e h = rw e h

digit-quiet : (s : Text) → begins is_digit s ≡ true → begins begins_entry s ≡ false
digit-quiet [] e = refl
digit-quiet (c ∷ cs) e = grind (arith, nat_tests)

name-free : {rest name s u : Text} → SpellsName name s u → EntryFree rest u → EntryFree rest s
name-free {name = name} d c = free-at d.run.split (run-free is_name_byte name-feed name d.run.passing c)

through-at : {u s v : Text} → s ≡ v → Through u v → Through u s
through-at e h = rw e h

pub name-through : {name s u : Text} → SpellsName name s u → Through (skip_spaces u) s
name-through {name} {u = u} d = through-at d.run.split (run-through is_name_byte name-feed name d.run.passing (spaces-through u))

pub name-line : {name s u : Text} → SpellsName name s u → On_line (skip_spaces u) s
name-line {name} {s} {u} d = by_name name d.run.split d.run.passing
  where
    by_name : (name : Text) → s ≡ name ++ u → list_all is_name_byte name ≡ true → On_line (skip_spaces u) s
    by_name [] e p = absurd (let k : begins is_name_byte u ≡ true = ap (begins is_name_byte) (sym e) ∙ letter-in_name s d.letter_first in let m = d.run.longest in cc)
    by_name (c ∷ cs) e p = record {
      first = c;
      more = cs ++ u;
      whole = e;
      no_feed = name-feed c (and-left (is_name_byte c) _ p);
      through = run-through is_name_byte name-feed cs (and-right (is_name_byte c) _ p) (spaces-through u);
    }

-- a head without an equals sign
head-refused : {name s u : Text} → SpellsName name s u → begins_with equals (skip_spaces u) ≡ false → g.head_at s ≡ refuse (kinds.expected_token equals) (skip_spaces u)
unfolding g.head_at
head-refused d e = rw (name_complete d, e) refl

head-missing : (s : Text) → begins is_letter s ≡ false → g.head_at s ≡ refuse kinds.expected_letter s
unfolding g.head_at g.identifier_at
head-missing s e = rw e refl

message-refused : (s : Text) {fault : Refusal} → g.head_at s ≡ refused fault → g.message_at s ≡ refused fault
unfolding g.message_at
message-refused s e = rw e refl

term-refused : (s : Text) {fault : Refusal} → g.head_at s ≡ refused fault → g.term_entry_at (hyphen ∷ s) ≡ refused fault
unfolding g.term_entry_at
term-refused s e = rw e refl

name-place : {rest name s u : Text} → SpellsName name s u → begins_with equals (skip_spaces u) ≡ false → EntryFree rest u → EntryFreePlace rest s
name-place {s = s} {u} d e c = record {
  free = name-free d c;
  start = start_refused (entry-of_letter s d.letter_first ∙ message-refused s (head-refused d e)) (name-line d) (free-spaces u c) (name-free d c);
}

term-place : {rest name s u : Text} → SpellsName name s u → begins_with equals (skip_spaces u) ≡ false → EntryFree rest u → EntryFreePlace rest (hyphen ∷ s)
term-place {s = s} {u} d e c = record {
  free = free_byte hyphen refl (name-free d c);
  start = start_refused (entry-of_hyphen (hyphen ∷ s) refl ∙ term-refused s (head-refused d e)) (record { first = hyphen; more = s; whole = refl; no_feed = refl; through = name-through d }) (free-spaces u c) (free_byte hyphen refl (name-free d c));
}

minus-place : {rest s : Text} → begins is_letter s ≡ false → EntryFree rest s → EntryFreePlace rest (hyphen ∷ s)
minus-place {s = s} e c = record {
  free = free_byte hyphen refl c;
  start = start_refused (entry-of_hyphen (hyphen ∷ s) refl ∙ term-refused s (head-missing s e)) (record { first = hyphen; more = s; whole = refl; no_feed = refl; through = through_here }) c (free_byte hyphen refl c);
}

digits-free : {rest digits s u : Text} → SpellsDigits digits s u → EntryFree rest u → EntryFree rest s
digits-free {digits = digits} d c = free-at d.run.split (run-free is_digit digit-feed digits d.run.passing c)

unsigned-free : {rest x s u : Text} → SpellsUnsigned x s u → EntryFree rest u → EntryFree rest s
unsigned-free (whole d n) c = digits-free d c
unsigned-free (decimal d f) c = digits-free d (free_byte dot refl (digits-free f c))

number-place : {rest x s u : Text} → SpellsNumber x s u → EntryFree rest u → EntryFreePlace rest s
number-place {s = s} (unsigned d) c = quiet (digit-quiet s (unsigned-digit d)) (unsigned-free d c)
number-place (negative {s = s} d) c = minus-place (digit-no_letter s (unsigned-digit d)) (unsigned-free d c)

plain-feed : (c : ℕ) → is_plain c ≡ true → (c == line_feed) ≡ false
plain-feed c e = grind arith

string-free : {rest raw s u : Text} → SpellsString raw s u → EntryFree rest u → EntryFree rest s
string-free closing_quote c = free_byte quote refl c
string-free (plain_byte {c = b} p d) c = free_byte b (plain-feed b p) (string-free d c)
string-free (escaped_backslash d) c = free_byte backslash refl (free_byte backslash refl (string-free d c))
string-free (escaped_quote d) c = free_byte backslash refl (free_byte quote refl (string-free d c))
string-free (four_digits n d) c = free_byte backslash refl (free_byte small_u refl (string-free d c))
string-free (six_digits n d) c = free_byte backslash refl (free_byte capital_u refl (string-free d c))

accessor-place : {rest s u : Text} {a : Option Text} → SpellsAccessor a s u → EntryFreePlace rest u → EntryFreePlace rest s
accessor-place (no_accessor e) i = i
accessor-place (an_accessor d) i = quiet refl (free_byte dot refl (name-free d i.free))

accessor-equals : {s u : Text} {a : Option Text} → SpellsAccessor a s u → NotEquals u → NotEquals s
accessor-equals (no_accessor e) n = n
accessor-equals (an_accessor d) n = refl

key-place : {rest s u : Text} {key : t.VariantKey} → SpellsKey key s u → NotEquals u → EntryFree rest u → EntryFreePlace rest s
key-place (number_key d) n c = number-place d c
key-place {u = u} (identifier_key d) n c = name-place d (equals-spaces u n) c

literal-place : {rest s u : Text} {e : t.Inline} → SpellsLiteral e s u → EntryFree rest u → EntryFreePlace rest s
literal-place (a_string d) c = quiet refl (free_byte quote refl (string-free d c))
literal-place (a_number d) c = number-place d c

-- bytes that begin an expression
solid-byte : (c : ℕ) (s : Text) → (c == space || c == line_feed) ≡ false → (c == carriage_return) ≡ false → (c == equals) ≡ false → NotEquals (c ∷ s)
solid-byte c s a b e = rw (a, b) e

letter-equals : (s : Text) → begins is_letter s ≡ true → NotEquals s
letter-equals [] e = refl
letter-equals (c ∷ s) e = solid-byte c s (grind (arith, nat_tests)) (grind (arith, nat_tests)) (grind (arith, nat_tests))

digit-equals : (s : Text) → begins is_digit s ≡ true → NotEquals s
digit-equals [] e = refl
digit-equals (c ∷ s) e = solid-byte c s (grind (arith, nat_tests)) (grind (arith, nat_tests)) (grind (arith, nat_tests))

equals-at : {s u : Text} → s ≡ u → NotEquals u → NotEquals s
equals-at e n = rw e n

inline-equals : {e : t.Inline} {s r : Text} → SpellsInline e s r → NotEquals s
inline-equals (a_string_literal b d) = equals-at b refl
inline-equals {s = s} (a_number_literal (unsigned d)) = digit-equals s (unsigned-digit d)
inline-equals (a_number_literal (negative d)) = refl
inline-equals (a_variable_reference b d) = equals-at b refl
inline-equals (a_term_reference b d a c) = equals-at b refl
inline-equals {s = s} (a_message_reference d o a) = letter-equals s d.letter_first
inline-equals {s = s} (a_function_reference d c p a) = letter-equals s d.letter_first
inline-equals (a_placeable (in_braces b d c)) = equals-at b refl

separator-comma : (u : Text) → begins_with comma (skip_blank u) ≡ true → skip_separator u ≡ skip_blank (drop 1 (skip_blank u))
separator-comma u e = rw e refl

separator-place : (u : Text) {rest : Text} → EntryFreePlace rest (skip_separator u) → EntryFreePlace rest u
separator-place u i = cases (begins_with comma (skip_blank u))
    (λ e. blank-place u (place-at (begins_is comma (skip_blank u) e) (quiet refl (free_byte comma refl (blank-place (drop 1 (skip_blank u)) (place-at (sym (separator-comma u e)) i)).free))))
    (λ e. blank-place u (blank-place (skip_blank u) (place-at (sym (separator-none u e)) i)))

separator-equals : (u : Text) → NotEquals (skip_separator u) → NotEquals u
separator-equals u n = cases (begins_with comma (skip_blank u))
    (λ e. ap (begins_with equals) (begins_is comma (skip_blank u) e))
    (λ e. equals-back u (equals-back (skip_blank u) (equals-at (sym (separator-none u e)) n)))

-- ---- lines

start-end : {rest : Text} → EntryFreeStart rest [] → EntryFree rest []
start-end start_rest = free_end refl
start-end (start_quiet e c) = c
start-end (start_refused e p f c) = c

spaces-quiet : (s : Text) → begins begins_entry (skip_spaces s) ≡ false → begins begins_entry s ≡ false
spaces-quiet [] e = refl
spaces-quiet (c ∷ s) e = cases (c == space)
    (λ b. let k : c ≡ space = same c space b in ap begins_entry k)
    (λ b. ap (begins begins_entry) (sym (skip_spaces-other c s b)) ∙ e)

over-clash : {s : Text} → Over s → begins begins_entry s ≡ true → pattern_ends s ≡ false → ⊥
over-clash over_end b e = absurd cc
over-clash (over_here k p) b e = absurd cc

goes_on-quiet : (s : Text) → pattern_ends s ≡ false → begins begins_entry s ≡ false
goes_on-quiet s e = cases (begins begins_entry s)
    (λ b. absurd (over-clash {s = s} (stops-over (stops_here b)) b e))
    (λ b. b)

replicate-free : {rest : Text} (n : ℕ) {x : Text} → EntryFree rest x → EntryFree rest (replicate n space ++ x)
replicate-free zero k = k
replicate-free (suc n) k = free_byte space refl (replicate-free n k)

line-quiet : {rest : Text} (n c : ℕ) (x : Text) → begins_entry c ≡ false → EntryFree rest (c ∷ x) → EntryFreeStart rest (replicate n space ++ (c ∷ x))
line-quiet zero c x b k = start_quiet b k
line-quiet (suc n) c x b k = start_quiet refl (free_byte space refl (replicate-free n k))

block-start : {rest u blanks : Text} → BlankLines blanks → EntryFreeStart rest u → EntryFreeStart rest (blanks ++ u)
block-start no_lines r = r
block-start {u = u} (ends_lf {more = m} n d) r = start-at (append_assoc (replicate n space) (line_feed ∷ m) u) (line-quiet n line_feed (m ++ u) refl (free_feed (block-start d r)))
block-start {u = u} (ends_crlf {more = m} n d) r = start-at (append_assoc (replicate n space) (carriage_return ∷ line_feed ∷ m) u) (line-quiet n carriage_return (line_feed ∷ (m ++ u)) refl (free_byte carriage_return refl (free_feed (block-start d r))))

skipped-start : (u : Text) {rest : Text} → EntryFreeStart rest (skip_blank_block u) → EntryFreeStart rest u
skipped-start u r = let b = block-at u in start-at b.1.split (block-start b.1.lines r)

text-free : {rest piece s u : Text} → SpellsText piece s u → (ends_line piece ≡ true → EntryFreeStart rest u) → (ends_line piece ≡ false → EntryFree rest u) → EntryFree rest s
text-free to_line_feed r c = free_feed (r refl)
text-free to_brace r c = c refl
text-free (to_crlf k) r c = c refl
text-free to_end r c = c refl
text-free (text_byte {c = b} {piece} k e d) r c =
    let n = text-feed b k in
    let w = ended-more b piece n in
    free_byte b n (text-free d (λ x. r (w ∙ x)) (λ x. c (w ∙ x)))
  where
    text-feed : (c : ℕ) → is_text_byte c ≡ true → (c == line_feed) ≡ false
    text-feed c e = grind arith

    ended-more : (c : ℕ) (piece : Text) → (c == line_feed) ≡ false → ends_line (c ∷ piece) ≡ ends_line piece
    ended-more c [] e = e
    ended-more c (d ∷ ds) e = refl

line_end-free : {rest s u : Text} → SpellsLineEnd s u → EntryFreeStart rest u → EntryFree rest s
line_end-free lf r = free_feed r
line_end-free crlf r = free_byte carriage_return refl (free_feed r)

-- ---- constructs

brace-place : {rest s r : Text} {e : t.Expression} → SpellsPlaceable e s r → EntryFree rest s → EntryFreePlace rest s
brace-place (in_braces b d c) k = quiet (ap (begins begins_entry) b) k

mutual
  placeable-free : {rest s r : Text} {e : t.Expression} → SpellsPlaceable e s r → EntryFree rest r → EntryFree rest s
  placeable-free (in_braces {u = u} {v = v} {rest = r} b d c) k =
      let w = blank-place v (place-at c (quiet refl (free_byte close_brace refl k))) in
      free-at b (free_byte open_brace refl (blank-place u (expression-place d w (ap (begins_with equals) c))).free)

  inline-place : {rest s r : Text} {e : t.Inline} → SpellsInline e s r → EntryFreePlace rest r → NotEquals r → EntryFreePlace rest s
  inline-place (a_string_literal b d) i n = place-at b (quiet refl (free_byte quote refl (string-free d i.free)))
  inline-place (a_number_literal d) i n = number-place d i.free
  inline-place (a_variable_reference b d) i n = place-at b (quiet refl (free_byte dollar refl (name-free d i.free)))
  inline-place (a_term_reference {v = v} {w = w} b d a c) i n =
      let m = maybe-place c i n in
      let o = accessor-place a (blank-place w m.0) in
      place-at b (term-place d (equals-spaces v (accessor-equals a (equals-back w m.1))) o.free)
  inline-place (a_message_reference {u = u} d o a) i n =
      let m = blank-place u (accessor-place a i) in
      name-place d (equals-spaces u (equals-back u (accessor-equals a n))) m.free
  inline-place (a_function_reference {u = u} {v = v} d c p a) i n =
      let m = arguments-place a i.free in
      let o = blank-place u (place-at p (quiet refl (free_byte open_paren refl (blank-place v m.0).free))) in
      name-place d (equals-spaces u (ap (begins_with equals) p)) o.free
  inline-place (a_placeable d) i n = brace-place d (placeable-free d i.free)

  maybe-place : {rest s r : Text} {c : t.MaybeArguments} → SpellsMaybeArguments c s r → EntryFreePlace rest r → NotEquals r → EntryFreePlace rest s × NotEquals s
  maybe-place (no_call e) i n = (i, n)
  maybe-place (a_call {u = u} b a) i n = (place-at b (quiet refl (free_byte open_paren refl (blank-place u (arguments-place a i.free).0).free)), equals-at b refl)

  arguments-place : {names : List Text} {rest s r : Text} {a : t.Arguments} → SpellsArguments names a s r → EntryFree rest r → EntryFreePlace rest s × NotEquals s
  arguments-place (no_more b) k = (place-at b (quiet refl (free_byte close_paren refl k)), equals-at b refl)
  arguments-place (positional {u = u} d p m) k =
      let o = arguments-place m k in
      (inline-place d (separator-place u o.0) (separator-equals u o.1), inline-equals d)
  arguments-place (named {s = s} {u = u} {v = v} {w = w} d c f l m) k =
      let o = arguments-place m k in
      let x = blank-place v (literal-place l (separator-place w o.0).free) in
      let y = blank-place u (place-at c (quiet refl (free_byte colon refl x.free))) in
      (name-place d (equals-spaces u (ap (begins_with equals) c)) y.free, letter-equals s d.letter_first)

  expression-place : {rest s r : Text} {e : t.Expression} → SpellsExpression e s r → EntryFreePlace rest r → NotEquals r → EntryFreePlace rest s
  expression-place (an_inline {u = u} d a m) i n = inline-place d (blank-place u i) (equals-back u n)
  expression-place (a_select {u = u} {v = v} {w = w} d a m f vs) i n =
      let o = blank-place w (variants-place vs i) in
      let x = spaces-back v (line_end-free (line_end_sound (skip_spaces v) w f) o.start) in
      let y = blank-place u (place-at a (minus-place refl (free_byte greater refl x))) in
      inline-place d y (ap (begins_with equals) a)

  variants-place : {marked : Bool} {rest s r : Text} {vs : t.Variants} → SpellsVariants marked vs s r → EntryFreePlace rest r → EntryFreePlace rest s
  variants-place (all_read a b) i = i
  variants-place (lone_mark a b) i = place-at a (quiet refl (free_byte asterisk refl i.free))
  variants-place (a_variant {u = u} d m) i = variant-place d (blank-place u (variants-place m i))
  variants-place (the_default {v = v} a d m) i = place-at a (quiet refl (free_byte asterisk refl (variant-place d (blank-place v (variants-place m i))).free))

  variant-place : {rest s r : Text} {key : t.VariantKey} {value : t.Elements} → SpellsVariant key value s r → EntryFreePlace rest r → EntryFreePlace rest s
  variant-place (keyed {u = u} {v = v} b k c p n) i =
      let x = blank-place v (place-at c (quiet refl (free_byte close_bracket refl (pattern-free p i.start)))) in
      place-at b (quiet refl (free_byte open_bracket refl (blank-place u (key-place k (ap (begins_with equals) c) x.free)).free))

  pattern-free : {rest s r : Text} {value : t.Elements} → SpellsPattern value s r → EntryFreeStart rest r → EntryFree rest s
  pattern-free (on_the_line {s = s} n d e) k = spaces-back s (pieces-free d k)
  pattern-free (on_the_next {s = s} {u = u} n d e) k = spaces-back s (line_end-free (line_end_sound (skip_spaces s) u n) (skipped-start u (line-start d k)))

  pieces-free : {rest s r : Text} {ps : List Piece} → SpellsPieces ps s r → EntryFreeStart rest r → EntryFree rest s
  pieces-free nothing_left k = start-end k
  pieces-free (crlf_piece {s = s} c d) k = free-at (crlf-text s c) (free_byte carriage_return refl (free_feed (line-start d k)))
  pieces-free (text_piece b x d) k = let m = behind-free d k in text-free x m.0 m.1
  pieces-free (placeable_piece e d) k = placeable-free e (pieces-free d k)

  line-start : {rest s r : Text} {ps : List Piece} → SpellsLine ps s r → EntryFreeStart rest r → EntryFreeStart rest s
  line-start (only_spaces_left {s} h) k = start_quiet (spaces-quiet s (ap (begins begins_entry) h)) (spaces-back s (free-at h (start-end k)))
  line-start (pattern_over h e) k = k
  line-start (line_of_text {s = s} h b x d) k = let m = behind-free d k in start_quiet (goes_on-quiet s h) (spaces-back s (text-free x m.0 m.1))
  line-start (line_of_placeable {s = s} h e d) k = start_quiet (goes_on-quiet s h) (spaces-back s (placeable-free e (pieces-free d k)))
  line-start (line_of_crlf {s = s} h c d) k = start_quiet (goes_on-quiet s h) (spaces-back s (pieces-free d k))

  behind-free : {ends : Bool} {rest s r : Text} {ps : List Piece} → SpellsBehindText ends ps s r → EntryFreeStart rest r → (ends ≡ true → EntryFreeStart rest s) × (ends ≡ false → EntryFree rest s)
  behind-free (next_line d) k = ((λ e. line-start d k), (λ e. absurd cc))
  behind-free (same_line d) k = ((λ e. absurd cc), (λ e. pieces-free d k))

-- ---- entries

head-free : {rest s r id : Text} {value : t.Elements} → SpellsHead id value s r → EntryFreeStart rest r → EntryFree rest s
head-free (a_head {u = u} d b p) k = name-free d (spaces-back u (free-at b (free_byte equals refl (pattern-free p k))))

attributes-start : {rest s r : Text} {attributes : List t.Attribute} → SpellsAttributes attributes s r → EntryFreeStart rest r → EntryFreeStart rest s
attributes-start (no_more_attributes f) k = k
attributes-start (one_more_attribute {s = s} d m) k = attribute-start d (attributes-start m k)
  where
    attribute-start : {rest s r : Text} {a : t.Attribute} → SpellsAttribute a s r → EntryFreeStart rest r → EntryFreeStart rest s
    attribute-start (an_attribute {s = s} b d n) k = start_quiet (spaces-quiet s (ap (begins begins_entry) b)) (spaces-back s (free-at b (free_byte dot refl (head-free d k))))

-- Up to what follows a message or a term, no entry is read at a line start within it.
pub entry-free : {e : t.Entry} {s rest : Text} → SpellsEntry e s rest → IsListed e → EntryFree rest s
entry-free (a_message {u = u} d m h) l = head-free d (skipped-start u (attributes-start m start_rest))
entry-free (a_term {v = v} b d m h) l = free-at b (free_byte hyphen refl (head-free d (skipped-start v (attributes-start m start_rest))))
entry-free (a_comment d) l = absurd l
entry-free (a_group_comment d) l = absurd l
entry-free (a_resource_comment d) l = absurd l
