-- Each reader goes on.
use Rattle.std.proofs.Common.{◌≡◌, ℕ, zero, suc, ◌-◌, ◌≤◌, Bool, true, false, ◌&&◌, ◌||◌, List, [], ◌∷◌, ◌++◌, length, drop, take, replicate, Option, Some, None, refl, sym, ap, ◌∙◌, arith, append_assoc}
use Rattle.std.specs.Prelude.{◌==◌}
use Rattle.std.specs.List.{list_all}
use Rattle.std.proofs.lemmas.Bool.Decides.{nat_tests}
use Rattle.std.proofs.lemmas.List.{length-append}
use Rattle.fluent_grammar.specs.Words.{Text, line_feed, carriage_return, space, equals, number_sign, hyphen, dot, colon, dollar, quote, greater, asterisk, backslash, open_paren, close_paren, open_bracket, close_bracket, open_brace, close_brace, small_u, capital_u, is_letter, is_digit, is_hex_digit, is_name_byte, is_callee_byte, is_among, hex_digits, begins, begins_with, begins_crlf, begins_arrow, name_len, spaces, skip_blank, skip_spaces, skip_blank_block}
use Rattle.fluent_grammar.specs.Refusal.{Kind, Reading, got, refused, refuse, mapped, ◌>>=◌}
use Rattle.fluent_grammar.specs.Refusal as r
use Rattle.fluent_grammar.specs.Tree as t
use Rattle.fluent_grammar.specs.Lines.{Piece, at_line_start, in_line, placed, ends_line, pattern_ends, goes_on_at_column_zero, ends_behind_spaces, is_blank, indent_of, common_indent, lesser, without_blank_end, elements_from, elements_of}
use Rattle.fluent_grammar.specs.Reading as g
use Rattle.fluent_grammar.specs.Reading.{Readers, step}
use Rattle.fluent_grammar.specs.Levels.{levels}
use Rattle.fluent_grammar.proofs.Taken.{one-plus}
use Rattle.fluent_grammar.specs.Blanks.{BlankLines, no_lines, ends_lf, ends_crlf}
use Rattle.fluent_grammar.proofs.Cases.{cases, and-left, and-right}
use Rattle.fluent_tidy_laws.proofs.LineFeeds.{EndsInFeed, lf_last, lf_later, lf-begins, lf-two, lf-run, lf-split}
use Rattle.fluent_tidy_laws.proofs.MovingWords.{skip_spaces-more, Over, over_end, over_here}
use Rattle.fluent_tidy_laws.proofs.MovingEntries.{stops-over}
use Rattle.fluent_tidy_laws.proofs.GoingOn.{Head, no_head, sign_head, name_head, term_head, Next, Place, in_front, at_equals, at_term_equals, behind_hyphen, RefusedIn, refused_in, Before, before, At, at_before, at_next, LineAt, line_before, line_next, Equal, equal, Never, Goes, same_got, same_refused, crossed_got, crossed_refused, Missed, missed, doomed, at-byte, at-drop, at-some, before-begins, before-drop, before-spaces, at-blank, at-separator, before-block, Ends, no_end, some_before, some_end, before-end, lf-crlf, got-at, refuse-at, end-next, goes-mapped, mapped-equal, mapped-never, goes-never, refused-mapped, goes-bind, goes-then, missed-bind, missed-refused, line-end, crlf-line, before-count, before-ends, before-some, next-block, head-stops, at-equal}
use Rattle.fluent_grammar.proofs.Blanks.{skip_spaces-other}
use Rattle.fluent_grammar.proofs.Complete.{some_text}

-- ---- words

take-in : (q : Text) (n : ℕ) (s : Text) → n ≤ length s → take n (s ++ q) ≡ take n s
take-in q zero s h = refl
take-in q (suc n) [] h = absurd (omega arith)
take-in q (suc n) (c ∷ cs) h = ap (λ z. c ∷ z) (take-in q n cs (omega arith))

front-same : (q s r : Text) → g.front (s ++ q) (r ++ q) ≡ g.front s r
front-same q s r =
    let e : length (s ++ q) - length (r ++ q) ≡ length s - length r = omega (arith, length-append s q, length-append r q) in
    rw e (take-in q (length s - length r) s (omega arith))

front-is : {q s s' r r' : Text} → Before q s s' → Before q r r' → g.front s r ≡ g.front s' r'
front-is {q} (before {s} f) (before {s = r} k) = sym (front-same q s r)

got-some : {q next rest rest' : Text} (u u' : Text) → Before q rest rest' → u ≡ u' → Goes q next Never (got u rest) (got u' rest')
got-some u u' h e = rw e (same_got h)

hex-same : {s : Text} (q : Text) (n : ℕ) → EndsInFeed s → hex_digits n (s ++ q) ≡ hex_digits n s
unfolding hex_digits
hex-same q n f = rw (lf-run is_hex_digit q refl f) refl

feed-read : (x : Text) → g.string_content (line_feed ∷ x) ≡ refuse r.unterminated_string_literal (line_feed ∷ x)
unfolding g.string_content
feed-read [] = refl
feed-read (c ∷ cs) = refl

module _ {q next : Text} where
  pub identifier-goes : {s s' : Text} → Before q s s' → Goes q next Never (g.identifier_at s) (g.identifier_at s')
  unfolding g.identifier_at
  identifier-goes (before {s} f) = cases (begins is_letter s)
      (λ e. let d = lf-split is_name_byte q refl f in rw (lf-begins is_letter q f, e, lf-run is_name_byte q refl f, d.1, d.2) (same_got (before d.0)))
      (λ e. rw (lf-begins is_letter q f, e) (same_refused (before f)))

  pub digits-goes : {s s' : Text} → Before q s s' → Goes q next Never (g.digits_at s) (g.digits_at s')
  unfolding g.digits_at
  digits-goes (before {s} f) = cases (begins is_digit s)
      (λ e. let d = lf-split is_digit q refl f in rw (lf-begins is_digit q f, e, lf-run is_digit q refl f, d.1, d.2) (same_got (before d.0)))
      (λ e. rw (lf-begins is_digit q f, e) (same_refused (before f)))

  fraction-goes : {s s' r r' : Text} → Before q s s' → Before q r r' → Goes q next Never (g.fraction_at s r) (g.fraction_at s' r')
  unfolding g.fraction_at
  fraction-goes {r = r} h k = cases (begins_with dot r)
      (λ e. rw (before-begins (λ y. y == dot) k, e) (goes-then _ _ (digits-goes (before-drop (λ y. y == dot) refl e k)) (λ a u u' m. got-some _ _ m (front-is h m))))
      (λ e. rw (before-begins (λ y. y == dot) k, e) (got-some _ _ k (front-is h k)))

  pub number-goes : {s s' : Text} → Before q s s' → Goes q next Never (g.number_at s) (g.number_at s')
  unfolding g.number_at
  number-goes {s} h = cases (begins_with hyphen s)
      (λ e. rw (before-begins (λ y. y == hyphen) h, e) (goes-then _ _ (digits-goes (before-drop (λ y. y == hyphen) refl e h)) (λ a r r' k. fraction-goes h k)))
      (λ e. rw (before-begins (λ y. y == hyphen) h, e) (goes-then _ _ (digits-goes h) (λ a r r' k. fraction-goes h k)))

  missing_hex-goes : {A : Type 0} {R : A → A → Type 0} {s : Text} → EndsInFeed s → Goes q next R (g.missing_hex {A = A} s) (g.missing_hex {A = A} (s ++ q))
  unfolding g.missing_hex
  missing_hex-goes {s = s} f = let d = lf-split is_hex_digit q refl f in rw (lf-run is_hex_digit q refl f, d.2) (same_refused (before d.0))

  feed-string : Goes q next Never (g.string_content (line_feed ∷ [])) (g.string_content (line_feed ∷ q))
  feed-string = rw (feed-read [], feed-read q) (same_refused (before lf_last))

  pub string-lf : {s : Text} → EndsInFeed s → Goes q next Never (g.string_content s) (g.string_content (s ++ q))
  unfolding g.string_content
  string-lf lf_last = feed-string
  string-lf (lf_later c lf_last) = cases (c == quote)
      (λ e. rw e (same_got (before lf_last)))
      (λ e. cases (c == line_feed)
      (λ k. rw (e, k) (same_refused (before (lf_later c lf_last))))
      (λ k. cases (c == backslash)
      (λ m. rw (e, k, m) (same_refused (before (lf_later c lf_last))))
      (λ m. rw (e, k, m) (mapped-never _ (feed-string)))))
  string-lf (lf_later c (lf_later {s} d f)) = cases (c == quote)
      (λ e. rw e (same_got (before (lf_later d f))))
      (λ e. cases (c == line_feed)
      (λ k. rw (e, k) (same_refused (before (lf_later c (lf_later d f)))))
      (λ k. cases (c == backslash)
      (λ m. cases (d == backslash || d == quote)
      (λ o. rw (e, k, m, o) (mapped-never _ (string-lf f)))
      (λ o. cases (d == small_u)
      (λ u. cases (hex_digits 4 s)
      (λ x. rw (e, k, m, o, u, hex-same q 4 f, x) (mapped-never _ (string-lf f)))
      (λ x. rw (e, k, m, o, u, hex-same q 4 f, x) (missing_hex-goes f)))
      (λ u. cases (d == capital_u)
      (λ w. cases (hex_digits 6 s)
      (λ x. rw (e, k, m, o, u, w, hex-same q 6 f, x) (mapped-never _ (string-lf f)))
      (λ x. rw (e, k, m, o, u, w, hex-same q 6 f, x) (missing_hex-goes f)))
      (λ w. rw (e, k, m, o, u, w) (same_refused (before (lf_later c (lf_later d f))))))))
      (λ m. rw (e, k, m) (mapped-never _ (string-lf (lf_later d f))))))

  pub string-goes : {s s' : Text} → Before q s s' → Goes q next Never (g.string_content s) (g.string_content s')
  string-goes (before f) = string-lf f

  pub literal-goes : {s s' : Text} → Before q s s' → Goes q next Never (g.literal_at s) (g.literal_at s')
  unfolding g.literal_at
  literal-goes {s} h = cases (begins_with quote s)
      (λ e. rw (before-begins (λ y. y == quote) h, e) (mapped-never t.string_literal (string-goes (before-drop (λ y. y == quote) refl e h))))
      (λ e. cases (begins is_digit s || begins_with hyphen s)
      (λ k. rw (before-begins (λ y. y == quote) h, before-begins is_digit h, before-begins (λ y. y == hyphen) h, e, k) (mapped-never t.number_literal (number-goes h)))
      (λ k. rw (before-begins (λ y. y == quote) h, before-begins is_digit h, before-begins (λ y. y == hyphen) h, e, k) (same_refused h)))

  pub accessor-goes : {s s' : Text} → Before q s s' → Goes q next Never (g.accessor_at s) (g.accessor_at s')
  unfolding g.accessor_at
  accessor-goes {s} h = cases (begins_with dot s)
      (λ e. rw (before-begins (λ y. y == dot) h, e) (mapped-never Some (identifier-goes (before-drop (λ y. y == dot) refl e h))))
      (λ e. rw (before-begins (λ y. y == dot) h, e) (same_got h))

  pub key-goes : {s s' : Text} → Before q s s' → Goes q next Never (g.key_at s) (g.key_at s')
  unfolding g.key_at
  key-goes {s} h = cases (begins is_digit s || begins_with hyphen s)
      (λ e. rw (before-begins is_digit h, before-begins (λ y. y == hyphen) h, e) (mapped-never t.number_key (number-goes h)))
      (λ e. rw (before-begins is_digit h, before-begins (λ y. y == hyphen) h, e) (mapped-never t.identifier_key (identifier-goes h)))

-- ---- the next head

-- after its name, up to its equals sign
pub named-equals : (u : Text) (v : Text) → skip_spaces u ≡ equals ∷ v → (begins_with dot u ≡ false) × (skip_blank u ≡ equals ∷ v)
named-equals [] v e = absurd cc
named-equals (c ∷ cs) v e = cases (c == space)
    (λ k.
    let i = named-equals cs v (sym (skip_spaces-more c cs k) ∙ e) in
    let d : (c == dot) ≡ false = grind (arith, nat_tests) in
    (d, rw k i.1))
    (λ k.
    let w : c ∷ cs ≡ equals ∷ v = sym (skip_spaces-other c cs k) ∙ e in
    (ap (begins_with dot) w, ap skip_blank w))

pub name-got : (s : Text) → begins is_letter s ≡ true → g.identifier_at s ≡ got (take (name_len s) s) (drop (name_len s) s)
unfolding g.identifier_at
name-got s b = rw b refl

no_digits : (s : Text) → begins is_letter s ≡ true → g.digits_at s ≡ refuse r.expected_digit s
unfolding g.digits_at
no_digits [] b = absurd cc
no_digits (c ∷ cs) b = let d : is_digit c ≡ false = grind (arith, nat_tests) in rw d refl

-- what a letter isn't
letter-byte : (c : ℕ) (s : Text) → is_letter c ≡ false → begins is_letter s ≡ true → begins_with c s ≡ false
letter-byte c [] n h = refl
letter-byte c (d ∷ ds) n h = cases (d == c)
    (λ e. let k : d ≡ c = grind arith in absurd (let m : is_letter c ≡ true = rw (← k) h in cc))
    (λ e. e)

letter-digit : (s : Text) → begins is_letter s ≡ true → begins is_digit s ≡ false
letter-digit [] h = refl
letter-digit (c ∷ cs) h = grind (arith, nat_tests)

pub at_head : {next : Text} → Place next next
at_head = in_front

pub place-at : {next : Text} (x : Text) → x ≡ next → Place next x
place-at x e = rw e at_head

-- a key, a literal
key-name : (s : Text) → begins is_letter s ≡ true → g.key_at s ≡ got (t.identifier_key (take (name_len s) s)) (drop (name_len s) s)
unfolding g.key_at
key-name s b = rw (letter-digit s b, letter-byte hyphen s refl b, name-got s b) refl

key-hyphen : (s : Text) → begins is_letter s ≡ true → g.key_at (hyphen ∷ s) ≡ refuse r.expected_digit s
unfolding g.key_at g.number_at
key-hyphen s b = rw (no_digits s b) refl

key-none : g.key_at [] ≡ refuse r.expected_letter []
unfolding g.key_at g.identifier_at
key-none = refl

key-sign : (s : Text) → g.key_at (number_sign ∷ s) ≡ refuse r.expected_letter (number_sign ∷ s)
unfolding g.key_at g.identifier_at
key-sign s = refl

pub key-next : {next : Text} → Head next → Missed next skip_blank (g.key_at []) (g.key_at next)
key-next no_head = rw key-none (missed (refused_in at_head))
key-next (sign_head {s}) = rw (key-none, key-sign s) (missed (refused_in at_head))
key-next (name_head {s} {v} b e) = rw (key-none, key-name s b) (doomed (named-equals (drop (name_len s) s) v e).1 (at_equals b e))
key-next (term_head {s} {v} b e) = rw (key-none, key-hyphen s b) (missed (refused_in (behind_hyphen refl b e)))

literal-none : g.literal_at [] ≡ refuse r.expected_literal []
unfolding g.literal_at
literal-none = refl

literal-sign : (s : Text) → g.literal_at (number_sign ∷ s) ≡ refuse r.expected_literal (number_sign ∷ s)
unfolding g.literal_at
literal-sign s = refl

literal-name : (s : Text) → begins is_letter s ≡ true → g.literal_at s ≡ refuse r.expected_literal s
unfolding g.literal_at
literal-name s b = rw (letter-byte quote s refl b, letter-digit s b, letter-byte hyphen s refl b) refl

literal-hyphen : (s : Text) → begins is_letter s ≡ true → g.literal_at (hyphen ∷ s) ≡ refuse r.expected_digit s
unfolding g.literal_at g.number_at
literal-hyphen s b = rw (no_digits s b) refl

literal-next : {next : Text} → Head next → RefusedIn next (g.literal_at next)
literal-next no_head = rw literal-none (refused_in at_head)
literal-next (sign_head {s}) = rw (literal-sign s) (refused_in at_head)
literal-next (name_head {s} {v} b e) = rw (literal-name s b) (refused_in at_head)
literal-next (term_head {s} {v} b e) = rw (literal-hyphen s b) (refused_in (behind_hyphen refl b e))

pub literal-at : {q next s s' : Text} → Next q next → At q next s s' → Goes q next Never (g.literal_at s) (g.literal_at s')
literal-at n (at_before h) = literal-goes h
literal-at n at_next = rw literal-none (crossed_refused (literal-next n.head))

-- an accessor
accessor-none : (s : Text) → begins_with dot s ≡ false → g.accessor_at s ≡ got None s
unfolding g.accessor_at
accessor-none s e = rw e refl

next-accessor : {q next : Text} → Next q next → Goes q next Equal (g.accessor_at []) (g.accessor_at next)
next-accessor {q} {next} n = rw (accessor-none [] refl, accessor-none next (at-byte {q = q} n dot refl at_next)) (crossed_got equal)

pub accessor-at : {q next s s' : Text} → Next q next → At q next s s' → Goes q next Equal (g.accessor_at s) (g.accessor_at s')
accessor-at n (at_before h) = goes-never (accessor-goes h)
accessor-at n at_next = next-accessor n

pub at-arrow : {q next s s' : Text} → Next q next → At q next s s' → begins_arrow s' ≡ begins_arrow s
at-arrow {q} n (at_before (before f)) = lf-two hyphen greater q refl f
at-arrow n at_next = no_arrow n.head
  where
    no_arrow : {next : Text} → Head next → begins_arrow next ≡ false
    no_arrow no_head = refl
    no_arrow sign_head = refl
    no_arrow (name_head {s} b e) = rw (letter-byte hyphen s refl b) refl
    no_arrow (term_head {s} b e) = letter-byte greater s refl b

pub arrow-drop : {q next s s' : Text} → begins_arrow s ≡ true → At q next s s' → Before q (drop 2 s) (drop 2 s')
arrow-drop b (at_before (before lf_last)) = absurd cc
arrow-drop b (at_before (before (lf_later c lf_last))) = absurd (let k : false ≡ true = and-right (c == hyphen) _ b in cc)
arrow-drop b (at_before (before (lf_later c (lf_later d f)))) = before f
arrow-drop b at_next = absurd cc

-- ---- text pieces

-- a text piece that ends its line goes up to the end; otherwise it is the same
pub data RunsOn (q : Text) : Reading Text → Reading Text → Type 0 where
  run_refused : {kind kind' : Kind} {at at' : Text} → Before q at at' → RunsOn q (refuse kind at) (refuse kind' at')
  run_got : {x rest rest' : Text} → Before q rest rest' → RunsOn q (got x rest) (got x rest')
  run_end : {x : Text} → ends_line x ≡ true → RunsOn q (got x []) (got x q)

ended-cons : (c : ℕ) (x : Text) → ends_line x ≡ true → ends_line (c ∷ x) ≡ true
ended-cons c [] e = absurd cc
ended-cons c (d ∷ ds) e = e

runs-cons : {q : Text} {x y : Reading Text} (c : ℕ) → RunsOn q x y → RunsOn q (mapped (λ more. (c ∷ []) ++ more) x) (mapped (λ more. (c ∷ []) ++ more) y)
runs-cons c (run_refused h) = run_refused h
runs-cons c (run_got h) = run_got h
runs-cons c (run_end {x} e) = run_end (ended-cons c x e)

text-runs : {s : Text} (q : Text) → EndsInFeed s → RunsOn q (g.text_run s) (g.text_run (s ++ q))
unfolding g.text_run
text-runs q lf_last = run_end refl
text-runs q (lf_later {s} c f) = cases (c == open_brace)
    (λ e. rw e (run_got (before (lf_later c f))))
    (λ e. cases (c == close_brace)
    (λ k. rw (e, k) (run_refused (before (lf_later c f))))
    (λ k. cases (c == line_feed)
    (λ m. rw (e, k, m) (run_got (before f)))
    (λ m. cases (c == carriage_return && begins_with line_feed s)
    (λ o. rw (e, k, m, lf-begins (λ y. y == line_feed) q f, o) (run_got (before (lf_later c f))))
    (λ o. rw (e, k, m, lf-begins (λ y. y == line_feed) q f, o) (runs-cons c (text-runs q f))))))

before-crlf : {q s s' : Text} → Before q s s' → begins_crlf s' ≡ begins_crlf s
before-crlf (before f) = lf-crlf _ f

-- lines of spaces
skip-replicate : (m c : ℕ) (x : Text) → (c == space) ≡ false → skip_spaces (replicate m space ++ (c ∷ x)) ≡ c ∷ x
skip-replicate zero c x e = skip_spaces-other c x e
skip-replicate (suc m) c x e = skip_spaces-more space (replicate m space ++ (c ∷ x)) refl ∙ skip-replicate m c x e

count-replicate : (m c : ℕ) (x : Text) → (c == space) ≡ false → spaces (replicate m space ++ (c ∷ x)) ≡ m
count-replicate zero c x e = rw e refl
count-replicate (suc m) c x e = one-plus _ ∙ ap suc (count-replicate m c x e)

ends-behind : (s u : Text) → (spaces s == 0) ≡ false → skip_spaces s ≡ u → begins ends_behind_spaces u ≡ false → pattern_ends s ≡ false
ends-behind s u z e b = rw (z, e) b

goes_on-replicate : (m c : ℕ) (x : Text) → (c == space) ≡ false → goes_on_at_column_zero c ≡ true → ends_behind_spaces c ≡ false → pattern_ends (replicate m space ++ (c ∷ x)) ≡ false
goes_on-replicate zero c x e k b = rw (e, k) refl
goes_on-replicate (suc m) c x e k b =
    let z : (suc m == 0) ≡ false = grind arith in
    ends-behind (replicate (suc m) space ++ (c ∷ x)) (c ∷ x) (ap (λ i. i == 0) (count-replicate (suc m) c x e) ∙ z) (skip-replicate (suc m) c x e) b

-- ---- elements

-- more pieces, which are blank
pub data More : List Piece → List Piece → Type 0 where
  more_blank : {ps : List Piece} (bs : List Piece) → list_all is_blank bs ≡ true → More ps (ps ++ bs)

blank-indent : (p : Piece) → is_blank p ≡ true → indent_of p ≡ None
blank-indent (at_line_start i s) e = rw e refl
blank-indent (in_line s) e = refl
blank-indent (placed z e) h = absurd cc

blank-indents : (bs : List Piece) → list_all is_blank bs ≡ true → common_indent bs ≡ None
blank-indents [] e = refl
blank-indents (p ∷ bs) e = rw (blank-indent p (and-left _ _ e), blank-indents bs (and-right (is_blank p) _ e)) refl

same-indent : (ps bs : List Piece) → list_all is_blank bs ≡ true → common_indent (ps ++ bs) ≡ common_indent ps
same-indent [] bs e = blank-indents bs e
same-indent (p ∷ ps) bs e = ap (lesser (indent_of p)) (same-indent ps bs e)

blank-none : (bs : List Piece) → list_all is_blank bs ≡ true → without_blank_end bs ≡ []
blank-none [] e = refl
blank-none (p ∷ bs) e = rw (blank-none bs (and-right (is_blank p) _ e), and-left (is_blank p) _ e) refl

same-end : (ps bs : List Piece) → list_all is_blank bs ≡ true → without_blank_end (ps ++ bs) ≡ without_blank_end ps
same-end [] bs e = blank-none bs e
same-end (p ∷ ps) bs e = rw (same-end ps bs e) refl

elements-more : (ps qs : List Piece) → More ps qs → Equal (elements_of ps) (elements_of qs)
elements-more ps qs (more_blank bs h) = equal-by (sym (ap (λ c. elements_from c (without_blank_end (ps ++ bs))) (same-indent ps bs h) ∙ ap (elements_from (common_indent ps)) (same-end ps bs h)))
  where
    equal-by : {A : Type 0} {a b : A} → a ≡ b → Equal a b
    equal-by e = rw e equal

-- ---- readers

-- the lines before the head are blank pieces
pub data LineEnds (next : Text) : Reading (List Piece) → Type 0 where
  line_ends : {bs : List Piece} → list_all is_blank bs ≡ true → LineEnds next (got bs next)

pub record Goers (q next : Text) (inside : Readers) : Type 0 where
  pub inline : {s s' : Text} → Before q s s' → Goes q next Equal (inside.inline s) (inside.inline s')
  pub inline_next : Missed next (λ s. s) (inside.inline []) (inside.inline next)
  pub arguments : (names : List Text) {s s' : Text} → At q next s s' → Goes q next Never (inside.arguments names s) (inside.arguments names s')
  pub arguments_doomed : (names : List Text) (v : Text) → Place next (equals ∷ v) → RefusedIn next (inside.arguments names (equals ∷ v))
  pub variants : (marked : Bool) {s s' : Text} → At q next s s' → Goes q next Equal (inside.variants marked s) (inside.variants marked s')
  pub line : {s s' : Text} → Before q s s' → Goes q next More (inside.line s) (inside.line s')
  pub line_end : inside.line [] ≡ got [] []
  pub line_next : {b : Text} → BlankLines b → LineEnds next (inside.line (b ++ next))
  pub pieces : {s s' : Text} → Before q s s' → Goes q next More (inside.pieces s) (inside.pieces s')

more-cons : (p : Piece) (ps qs : List Piece) → More ps qs → More (p ∷ ps) (p ∷ qs)
more-cons p ps qs (more_blank bs h) = more_blank bs h

piece-goes : {q next : Text} {x y : Reading (List Piece)} (p : Piece) → Goes q next More x y → Goes q next More (mapped (λ ps. p ∷ ps) x) (mapped (λ ps. p ∷ ps) y)
piece-goes p h = goes-mapped _ (more-cons p) h

line-ended : {q next : Text} {x y : Reading (List Piece)} → x ≡ got [] [] → LineEnds next y → Goes q next More x y
line-ended e (line_ends {bs} h) = rw e (crossed_got (more_blank bs h))

line-piece : {next : Text} {y : Reading (List Piece)} (p : Piece) → is_blank p ≡ true → LineEnds next y → LineEnds next (mapped (λ ps. p ∷ ps) y)
line-piece p b (line_ends {bs} h) = line_ends (rw (b, h) refl)

module _ {q next : Text} (n : Next q next) (inside : Readers) (k : Goers q next inside) where
  lines-goes : {s s' : Text} → LineAt q next s s' → Goes q next More (inside.line s) (inside.line s')
  lines-goes (line_before h) = k.line h
  lines-goes (line_next b) = line-ended k.line_end (k.line_next b)

  variants_after-goes : (e : t.Inline) {s s' : Text} {o o' : Option Text} → Before q s s' → Ends q o o' → Goes q next Equal (g.variants_after inside e s o) (g.variants_after inside e s' o')
  unfolding g.variants_after
  variants_after-goes e h no_end = same_refused h
  variants_after-goes e h (some_before b) = mapped-equal (t.select e) (k.variants false (at-blank n (at_before b)))
  variants_after-goes e h some_end = mapped-equal (t.select e) (k.variants false (end-next n))

  select-goes : (e : t.Inline) (o : Option Kind) {s s' : Text} → begins_arrow s ≡ true → At q next s s' → Goes q next Equal (g.select_at inside e o s) (g.select_at inside e o s')
  unfolding g.select_at
  select-goes e None b h = let u = before-spaces (arrow-drop b h) in variants_after-goes e u (before-end u)
  select-goes e (Some kind) b h = refuse-at h

  select_or_inline-goes : (e : t.Inline) {s s' : Text} → At q next s s' → Goes q next Equal (g.select_or_inline_at inside e s) (g.select_or_inline_at inside e s')
  unfolding g.select_or_inline_at
  select_or_inline-goes e {s} h = cases (begins_arrow s)
      (λ b. rw (at-arrow n h, b) (select-goes e (g.selector_fault e) b h))
      (λ b. cases (g.is_term_attribute e)
      (λ c. rw (at-arrow n h, b, c) (refuse-at h))
      (λ c. rw (at-arrow n h, b, c) (got-at _ h)))

  closing-goes : (e : t.Expression) {s s' : Text} → At q next s s' → Goes q next Never (g.closing_at inside e s) (g.closing_at inside e s')
  unfolding g.closing_at
  closing-goes e {s} h = cases (begins_with close_brace s)
      (λ b. rw (at-byte n close_brace refl h, b) (same_got (at-drop n close_brace refl b h)))
      (λ b. rw (at-byte n close_brace refl h, b) (refuse-at h))

  closing-doomed : (e : t.Inline) (v : Text) → Place next (equals ∷ v) → RefusedIn next (g.select_or_inline_at inside e (equals ∷ v) >>= (λ x. g.closing_at inside x.0 (skip_blank x.1)))
  unfolding g.select_or_inline_at g.closing_at
  closing-doomed e v p = cases (g.is_term_attribute e)
      (λ c. rw c (refused_in p))
      (λ c. rw c (refused_in p))

  doomed-at : (e : t.Inline) (s v : Text) → skip_blank s ≡ equals ∷ v → Place next (equals ∷ v) → RefusedIn next (g.select_or_inline_at inside e (skip_blank s) >>= (λ x. g.closing_at inside x.0 (skip_blank x.1)))
  doomed-at e s v h p = rw h (closing-doomed e v p)

  held : {s s' : Text} → At q next s s' → Goes q next Never (inside.inline s >>= (λ e. g.select_or_inline_at inside e.0 (skip_blank e.1) >>= (λ x. g.closing_at inside x.0 (skip_blank x.1)))) (inside.inline s' >>= (λ e. g.select_or_inline_at inside e.0 (skip_blank e.1) >>= (λ x. g.closing_at inside x.0 (skip_blank x.1))))
  held (at_before h) = goes-bind _ _ (k.inline h) (λ e r r' m. goes-bind _ _ (select_or_inline-goes e (at-blank n m)) (λ x u u' o. closing-goes x (at-blank n o)))
  held at_next = missed-bind _ _ k.inline_next (λ e s v h p. doomed-at e s v (ap skip_blank h) p)

  pub placeable-goes : (s s' : Text) → Before q (drop 1 s) (drop 1 s') → Goes q next Never (g.placeable_at inside s) (g.placeable_at inside s')
  unfolding g.placeable_at
  placeable-goes s s' h = held (at-blank n (at_before h))

  term_arguments-goes : (id : Text) (attr : Option Text) {s s' : Text} → At q next s s' → Goes q next Equal (g.term_arguments_at inside id attr s) (g.term_arguments_at inside id attr s')
  unfolding g.term_arguments_at
  term_arguments-goes id attr {s} h = cases (begins_with open_paren s)
      (λ b. rw (at-byte n open_paren refl h, b) (mapped-never _ (k.arguments [] (at-blank n (at_before (at-drop n open_paren refl b h))))))
      (λ b. rw (at-byte n open_paren refl h, b) (got-at _ h))

  term-goes : {s s' : Text} → Before q s s' → Goes q next Equal (g.term_at inside s) (g.term_at inside s')
  unfolding g.term_at
  term-goes h = goes-then _ _ (identifier-goes h) (λ id r r' m. goes-then _ _ (accessor-goes m) (λ attr u u' o. term_arguments-goes id attr (at-blank n (at_before o))))

  function-goes : (id : Text) (a : t.Arguments) {s s' : Text} → Before q s s' → Goes q next Equal (g.function_of inside id a s) (g.function_of inside id a s')
  unfolding g.function_of
  function-goes id a h = cases (list_all is_callee_byte id)
      (λ e. rw e (same_got h))
      (λ e. rw e (same_refused h))

  called-goes : (id : Text) {s s' : Text} → At q next s s' → Goes q next Equal (g.called_at inside id s) (g.called_at inside id s')
  unfolding g.called_at
  called-goes id {s} h = cases (begins_with open_paren s)
      (λ b. rw (at-byte n open_paren refl h, b) (goes-then _ _ (k.arguments [] (at-blank n (at_before (at-drop n open_paren refl b h)))) (λ a r r' m. function-goes id a m)))
      (λ b. rw (at-byte n open_paren refl h, b) (mapped-equal (t.message_reference id) (accessor-at n h)))

  named-goes : {s s' : Text} → Before q s s' → Goes q next Equal (g.named_at inside s) (g.named_at inside s')
  unfolding g.named_at
  named-goes h = goes-then _ _ (identifier-goes h) (λ id r r' m. called-goes id (at-blank n (at_before m)))

  inline-goes : {s s' : Text} → Before q s s' → Goes q next Equal (g.inline_at inside s) (g.inline_at inside s')
  unfolding g.inline_at
  inline-goes {s} {s'} h = cases (begins_with quote s)
      (λ b. rw (before-begins (λ c. c == quote) h, b) (mapped-never _ (string-goes (before-drop (λ c. c == quote) refl b h))))
      (λ b. cases (begins is_digit s)
      (λ d. rw (before-begins (λ c. c == quote) h, b, before-begins is_digit h, d) (mapped-never _ (number-goes h)))
      (λ d. cases (begins_with hyphen s)
      (λ m. let u = before-drop (λ c. c == hyphen) refl m h in cases (begins is_letter (drop 1 s))
      (λ l. rw (before-begins (λ c. c == quote) h, b, before-begins is_digit h, d, before-begins (λ c. c == hyphen) h, m, before-begins is_letter u, l) (term-goes u))
      (λ l. rw (before-begins (λ c. c == quote) h, b, before-begins is_digit h, d, before-begins (λ c. c == hyphen) h, m, before-begins is_letter u, l) (mapped-never _ (number-goes h))))
      (λ m. cases (begins_with dollar s)
      (λ o. rw (before-begins (λ c. c == quote) h, b, before-begins is_digit h, d, before-begins (λ c. c == hyphen) h, m, before-begins (λ c. c == dollar) h, o) (mapped-never _ (identifier-goes (before-drop (λ c. c == dollar) refl o h))))
      (λ o. cases (begins is_letter s)
      (λ l. rw (before-begins (λ c. c == quote) h, b, before-begins is_digit h, d, before-begins (λ c. c == hyphen) h, m, before-begins (λ c. c == dollar) h, o, before-begins is_letter h, l) (named-goes h))
      (λ l. cases (begins_with open_brace s)
      (λ w. rw (before-begins (λ c. c == quote) h, b, before-begins is_digit h, d, before-begins (λ c. c == hyphen) h, m, before-begins (λ c. c == dollar) h, o, before-begins is_letter h, l, before-begins (λ c. c == open_brace) h, w) (mapped-never _ (placeable-goes _ _ (before-drop (λ c. c == open_brace) refl w h))))
      (λ w. rw (before-begins (λ c. c == quote) h, b, before-begins is_digit h, d, before-begins (λ c. c == hyphen) h, m, before-begins (λ c. c == dollar) h, o, before-begins is_letter h, l, before-begins (λ c. c == open_brace) h, w) (same_refused h)))))))

  -- at the head
  named-head : (s v : Text) → begins is_letter s ≡ true → skip_spaces (drop (name_len s) s) ≡ equals ∷ v → g.named_at inside s ≡ got (t.message_reference (take (name_len s) s) None) (equals ∷ v)
  unfolding g.named_at g.called_at g.accessor_at
  named-head s v b e = rw (name-got s b, (named-equals (drop (name_len s) s) v e).1) refl

  term-head : (s v : Text) → begins is_letter s ≡ true → skip_spaces (drop (name_len s) s) ≡ equals ∷ v → g.term_at inside s ≡ got (t.term_reference (take (name_len s) s) None t.no_arguments) (equals ∷ v)
  unfolding g.term_at g.accessor_at g.term_arguments_at
  term-head s v b e = rw (name-got s b, (named-equals (drop (name_len s) s) v e).0, (named-equals (drop (name_len s) s) v e).1) refl

  inline-name : (s : Text) → begins is_letter s ≡ true → g.inline_at inside s ≡ g.named_at inside s
  unfolding g.inline_at
  inline-name s b = rw (letter-byte quote s refl b, letter-digit s b, letter-byte hyphen s refl b, letter-byte dollar s refl b, b) refl

  inline-term : (s : Text) → begins is_letter s ≡ true → g.inline_at inside (hyphen ∷ s) ≡ g.term_at inside s
  unfolding g.inline_at
  inline-term s b = rw b refl

  inline-none : g.inline_at inside [] ≡ refuse r.expected_inline_expression []
  unfolding g.inline_at
  inline-none = refl

  inline-sign : (s : Text) → g.inline_at inside (number_sign ∷ s) ≡ refuse r.expected_inline_expression (number_sign ∷ s)
  unfolding g.inline_at
  inline-sign s = refl

  inline-equals : (v : Text) → g.inline_at inside (equals ∷ v) ≡ refuse r.expected_inline_expression (equals ∷ v)
  unfolding g.inline_at
  inline-equals v = refl

  inline-head : {x : Text} → Head x → Missed x (λ s. s) (g.inline_at inside []) (g.inline_at inside x)
  inline-head no_head = rw inline-none (missed (refused_in at_head))
  inline-head (sign_head {s}) = rw (inline-none, inline-sign s) (missed (refused_in at_head))
  inline-head (name_head {s} {v} b e) = rw (inline-none, inline-name s b, named-head s v b e) (doomed refl (at_equals b e))
  inline-head (term_head {s} {v} b e) = rw (inline-none, inline-term s b, term-head s v b e) (doomed refl (at_term_equals refl b e))

  inline-next : Missed next (λ s. s) (g.inline_at inside []) (g.inline_at inside next)
  inline-next = inline-head n.head

  -- arguments
  positional-goes : (names : List Text) (e : t.Inline) {s s' : Text} → At q next s s' → Goes q next Never (g.positional_at inside names e s) (g.positional_at inside names e s')
  unfolding g.positional_at
  positional-goes [] e h = mapped-never _ (k.arguments [] (at-separator n h))
  positional-goes (name ∷ names) e h = refuse-at h

  named_value-goes : (names : List Text) (name : Text) {s s' : Text} → Before q s s' → begins_with colon s ≡ true → Goes q next Never (g.named_value_at inside names name s) (g.named_value_at inside names name s')
  unfolding g.named_value_at
  named_value-goes names name {s} h b = cases (is_among name names)
      (λ e. rw e (same_refused h))
      (λ e. rw e (goes-then _ _ (literal-at n (at-blank n (at_before (before-drop (λ y. y == colon) refl b h)))) (λ v r r' m. mapped-never _ (k.arguments (name ∷ names) (at-separator n (at_before m))))))

  argument-goes : (names : List Text) (e : t.Inline) (o : Option Text) {s s' : Text} → At q next s s' → Goes q next Never (g.argument_at inside names e o s) (g.argument_at inside names e o s')
  unfolding g.argument_at
  argument-goes names e None h = positional-goes names e h
  argument-goes names e (Some name) {s} h = cases (begins_with colon s)
      (λ b. rw (at-byte n colon refl h, b) (named_value-goes names name (at-some n (λ y. y == colon) b h) b))
      (λ b. rw (at-byte n colon refl h, b) (positional-goes names e h))

  positional-doomed : (names : List Text) (e : t.Inline) (v : Text) → Place next (equals ∷ v) → RefusedIn next (g.positional_at inside names e (equals ∷ v))
  unfolding g.positional_at
  positional-doomed [] e v p = refused-mapped _ (k.arguments_doomed [] v p)
  positional-doomed (name ∷ names) e v p = refused_in p

  argument-doomed : (names : List Text) (e : t.Inline) (o : Option Text) (v : Text) → Place next (equals ∷ v) → RefusedIn next (g.argument_at inside names e o (equals ∷ v))
  unfolding g.argument_at
  argument-doomed names e None v p = positional-doomed names e v p
  argument-doomed names e (Some name) v p = positional-doomed names e v p

  argument-doomed_at : (names : List Text) (e : t.Inline) (s v : Text) → s ≡ equals ∷ v → Place next (equals ∷ v) → RefusedIn next (g.argument_at inside names e (g.name_of_argument e) s)
  argument-doomed_at names e s v h p = rw h (argument-doomed names e (g.name_of_argument e) v p)

  arguments-equals : (names : List Text) (v : Text) → Place next (equals ∷ v) → RefusedIn next (g.arguments_at inside names (equals ∷ v))
  unfolding g.arguments_at
  arguments-equals names v p = rw (some_text (equals ∷ v) (λ e. absurd cc), inline-equals v) (refused_in p)

  arguments-none : (names : List Text) → g.arguments_at inside names [] ≡ refuse (r.expected_token close_paren) []
  unfolding g.arguments_at
  arguments-none names = refl

  arguments-at : (names : List Text) (s : Text) → (length s == 0) ≡ false → begins_with close_paren s ≡ false →
      g.arguments_at inside names s ≡ (g.inline_at inside s >>= (λ e. g.argument_at inside names e.0 (g.name_of_argument e.0) e.1))
  unfolding g.arguments_at
  arguments-at names s b d = rw (b, d) refl

  arguments-next : (names : List Text) (x : Text) → x ≡ next → RefusedIn next (g.arguments_at inside names x)
  arguments-next names [] e = rw (arguments-none names) (refused_in (place-at [] e))
  arguments-next names (c ∷ cs) e =
      rw (arguments-at names (c ∷ cs) (some_text (c ∷ cs) (λ z. absurd cc)) (ap (begins_with close_paren) e ∙ at-byte {q = q} n close_paren refl at_next))
      (rw e (missed-refused _ inline-next (λ a rest v h p. argument-doomed_at names a rest v h p)))

  arguments-before : (names : List Text) {s s' : Text} → Before q s s' → Goes q next Never (g.arguments_at inside names s) (g.arguments_at inside names s')
  unfolding g.arguments_at
  arguments-before names {s} h = let z = before-some h in cases (begins_with close_paren s)
      (λ b. rw (z.0, z.1, before-begins (λ c. c == close_paren) h, b) (same_got (before-drop (λ c. c == close_paren) refl b h)))
      (λ b. rw (z.0, z.1, before-begins (λ c. c == close_paren) h, b) (goes-bind _ _ (inline-goes h) (λ e r r' m. argument-goes names e (g.name_of_argument e) m)))

  arguments-goes : (names : List Text) {s s' : Text} → At q next s s' → Goes q next Never (g.arguments_at inside names s) (g.arguments_at inside names s')
  arguments-goes names (at_before h) = arguments-before names h
  arguments-goes names at_next = rw (arguments-none names) (crossed_refused (arguments-next names next refl))

  -- pieces
  after_text-goes : (b : Bool) {s s' : Text} → Before q s s' → Goes q next More (g.after_text_at inside b s) (g.after_text_at inside b s')
  unfolding g.after_text_at
  after_text-goes true h = k.line h
  after_text-goes false h = k.pieces h

  after_text-end : (b : Bool) → b ≡ true → Goes q next More (g.after_text_at inside b []) (g.after_text_at inside b q)
  unfolding g.after_text_at
  after_text-end true e = lines-goes (line-end n)
  after_text-end false e = absurd cc

  placeable_piece-goes : (z z' : Bool) → z' ≡ z → (s s' : Text) → Before q (drop 1 s) (drop 1 s') → Goes q next More (g.placeable_piece_at inside z s) (g.placeable_piece_at inside z' s')
  unfolding g.placeable_piece_at
  placeable_piece-goes z z' w s s' h = rw w (goes-then _ _ (placeable-goes s s' h) (λ e r r' m. piece-goes _ (k.pieces m)))

  run-piece : (piece : Text → Piece) {x y : Reading Text} → RunsOn q x y →
      Goes q next More (x >>= (λ x. mapped (λ ps. piece x.0 ∷ ps) (g.after_text_at inside (ends_line x.0) x.1))) (y >>= (λ x. mapped (λ ps. piece x.0 ∷ ps) (g.after_text_at inside (ends_line x.0) x.1)))
  run-piece piece (run_refused h) = same_refused h
  run-piece piece (run_got h) = piece-goes _ (after_text-goes _ h)
  run-piece piece (run_end e) = piece-goes _ (after_text-end _ e)

  text_piece-goes : (piece : Text → Piece) {s s' : Text} → Before q s s' → Goes q next More (g.text_piece_at inside piece s) (g.text_piece_at inside piece s')
  unfolding g.text_piece_at
  text_piece-goes piece (before f) = run-piece piece (text-runs q f)

  text_piece-count : (m m' : ℕ) → m' ≡ m → {s s' : Text} → Before q s s' → Goes q next More (g.text_piece_at inside (at_line_start m) s) (g.text_piece_at inside (at_line_start m') s')
  text_piece-count m m' e h = rw e (text_piece-goes _ h)

  pieces-goes : {s s' : Text} → Before q s s' → Goes q next More (g.pieces_at inside s) (g.pieces_at inside s')
  unfolding g.pieces_at
  pieces-goes {s} h = let z = before-some h in cases (begins_with open_brace s)
      (λ b. rw (z.0, z.1, before-begins (λ c. c == open_brace) h, b) (placeable_piece-goes false false refl _ _ (before-drop (λ c. c == open_brace) refl b h)))
      (λ b. cases (begins_crlf s)
      (λ d. rw (z.0, z.1, before-begins (λ c. c == open_brace) h, b, before-crlf h, d) (piece-goes _ (lines-goes (crlf-line n d h))))
      (λ d. rw (z.0, z.1, before-begins (λ c. c == open_brace) h, b, before-crlf h, d) (text_piece-goes _ h)))

  line-goes : {s s' : Text} → Before q s s' → Goes q next More (g.line_at inside s) (g.line_at inside s')
  unfolding g.line_at
  line-goes {s} h = let u = before-spaces h in let z = before-some u in cases (pattern_ends s)
      (λ a. rw (z.0, z.1, before-ends h, a) (same_got h))
      (λ a. cases (begins_with open_brace (skip_spaces s))
      (λ b. rw (z.0, z.1, before-ends h, a, before-begins (λ c. c == open_brace) u, b) (placeable_piece-goes _ _ (ap (λ i. i == 0) (before-count h)) _ _ (before-drop (λ c. c == open_brace) refl b u)))
      (λ b. cases (begins_crlf (skip_spaces s))
      (λ d. rw (z.0, z.1, before-ends h, a, before-begins (λ c. c == open_brace) u, b, before-crlf u, d) (pieces-goes u))
      (λ d. rw (z.0, z.1, before-ends h, a, before-begins (λ c. c == open_brace) u, b, before-crlf u, d) (text_piece-count _ _ (before-count h) u))))

  line-none : g.line_at inside [] ≡ got [] []
  unfolding g.line_at
  line-none = refl

  line-over : {s : Text} → Over s → g.line_at inside s ≡ got [] s
  unfolding g.line_at
  line-over over_end = refl
  line-over (over_here {s} e p) = rw (some_text (skip_spaces s) e, p) refl

  line-text : (s u : Text) (m : ℕ) → skip_spaces s ≡ u → spaces s ≡ m → pattern_ends s ≡ false → (length u == 0) ≡ false → begins_with open_brace u ≡ false → begins_crlf u ≡ false →
      g.line_at inside s ≡ g.text_piece_at inside (at_line_start m) u
  unfolding g.line_at
  line-text s u m e c p z b d =
      let z0 : (length (skip_spaces s) == 0) ≡ false = ap (λ x. length x == 0) e ∙ z in
      let b0 : begins_with open_brace (skip_spaces s) ≡ false = ap (begins_with open_brace) e ∙ b in
      let d0 : begins_crlf (skip_spaces s) ≡ false = ap begins_crlf e ∙ d in
      rw (p, z0, b0, d0, e, c) refl

  line-to_crlf : (s u : Text) → skip_spaces s ≡ u → pattern_ends s ≡ false → (length u == 0) ≡ false → begins_with open_brace u ≡ false → begins_crlf u ≡ true →
      g.line_at inside s ≡ g.pieces_at inside u
  unfolding g.line_at
  line-to_crlf s u e p z b d =
      let z0 : (length (skip_spaces s) == 0) ≡ false = ap (λ x. length x == 0) e ∙ z in
      let b0 : begins_with open_brace (skip_spaces s) ≡ false = ap (begins_with open_brace) e ∙ b in
      let d0 : begins_crlf (skip_spaces s) ≡ true = ap begins_crlf e ∙ d in
      rw (p, z0, b0, d0, e) refl

  feed-piece : (m : ℕ) (x : Text) → g.text_piece_at inside (at_line_start m) (line_feed ∷ x) ≡ mapped (λ ps. at_line_start m (line_feed ∷ []) ∷ ps) (inside.line x)
  unfolding g.text_piece_at g.text_run g.after_text_at
  feed-piece m x = refl

  crlf-piece : (x : Text) → g.pieces_at inside (carriage_return ∷ line_feed ∷ x) ≡ mapped (λ ps. in_line (line_feed ∷ []) ∷ ps) (inside.line x)
  unfolding g.pieces_at
  crlf-piece x = rw (some_text (carriage_return ∷ line_feed ∷ x) (λ e. absurd cc)) refl

  line-feed : (m : ℕ) (x : Text) → g.line_at inside (replicate m space ++ (line_feed ∷ x)) ≡ mapped (λ ps. at_line_start m (line_feed ∷ []) ∷ ps) (inside.line x)
  line-feed m x =
      line-text (replicate m space ++ (line_feed ∷ x)) (line_feed ∷ x) m (skip-replicate m line_feed x refl) (count-replicate m line_feed x refl) (goes_on-replicate m line_feed x refl refl refl)
      (some_text (line_feed ∷ x) (λ e. absurd cc)) refl refl ∙ feed-piece m x

  line-crlf : (m : ℕ) (x : Text) → g.line_at inside (replicate m space ++ (carriage_return ∷ line_feed ∷ x)) ≡ mapped (λ ps. in_line (line_feed ∷ []) ∷ ps) (inside.line x)
  line-crlf m x =
      line-to_crlf (replicate m space ++ (carriage_return ∷ line_feed ∷ x)) (carriage_return ∷ line_feed ∷ x) (skip-replicate m carriage_return (line_feed ∷ x) refl) (goes_on-replicate m carriage_return (line_feed ∷ x) refl refl refl)
      (some_text (carriage_return ∷ line_feed ∷ x) (λ e. absurd cc)) refl refl ∙ crlf-piece x

  line-next : {b : Text} → BlankLines b → LineEnds next (g.line_at inside (b ++ next))
  line-next no_lines = rw (line-over (stops-over (head-stops n.head))) (line_ends refl)
  line-next (ends_lf {more = m} i d) = rw (append_assoc (replicate i space) (line_feed ∷ m) next, line-feed i (m ++ next)) (line-piece _ refl (k.line_next d))
  line-next (ends_crlf {more = m} i d) = rw (append_assoc (replicate i space) (carriage_return ∷ line_feed ∷ m) next, line-crlf i (m ++ next)) (line-piece _ refl (k.line_next d))

  line_at-goes : {s s' : Text} → At q next s s' → Goes q next More (g.line_at inside s) (g.line_at inside s')
  line_at-goes (at_before h) = line-goes h
  line_at-goes at_next = line-ended line-none (line-next no_lines)

  first_pieces-goes : {s s' : Text} {o o' : Option Text} → Before q s s' → Ends q o o' → Goes q next More (g.first_pieces_at inside s o) (g.first_pieces_at inside s' o')
  unfolding g.first_pieces_at
  first_pieces-goes h no_end = pieces-goes h
  first_pieces-goes h (some_before b) = line_at-goes (before-block n b)
  first_pieces-goes h some_end = line_at-goes (at-equal (next-block n) at_next)

  pub pattern-goes : {s s' : Text} → Before q s s' → Goes q next Equal (g.pattern_at inside s) (g.pattern_at inside s')
  unfolding g.pattern_at
  pattern-goes h = let u = before-spaces h in goes-mapped _ elements-more (first_pieces-goes u (before-end u))

  -- variants
  variants_behind-goes : (default : Bool) (key : t.VariantKey) (marked : Bool) (value : t.Elements) {s s' : Text} → At q next s s' →
      Goes q next Equal (g.variants_behind inside default key marked value s) (g.variants_behind inside default key marked value s')
  unfolding g.variants_behind
  variants_behind-goes default key marked t.no_elements h = refuse-at h
  variants_behind-goes default key marked (t.text x es) h = mapped-equal _ (k.variants marked (at-blank n h))
  variants_behind-goes default key marked (t.placeable x es) h = mapped-equal _ (k.variants marked (at-blank n h))

  variant_value-goes : (default : Bool) (key : t.VariantKey) (marked : Bool) {s s' : Text} → At q next s s' → Goes q next Equal (g.variant_value_at inside default key marked s) (g.variant_value_at inside default key marked s')
  unfolding g.variant_value_at
  variant_value-goes default key marked {s} h = cases (begins_with close_bracket s)
      (λ b. rw (at-byte n close_bracket refl h, b) (goes-bind _ _ (pattern-goes (at-drop n close_bracket refl b h)) (λ v r r' m. variants_behind-goes default key marked v m)))
      (λ b. rw (at-byte n close_bracket refl h, b) (refuse-at h))

  variant_value-equals : (default : Bool) (key : t.VariantKey) (marked : Bool) (v : Text) → g.variant_value_at inside default key marked (equals ∷ v) ≡ refuse (r.expected_token close_bracket) (equals ∷ v)
  unfolding g.variant_value_at
  variant_value-equals default key marked v = refl

  variant_value-doomed : (default : Bool) (key : t.VariantKey) (marked : Bool) (s v : Text) → s ≡ equals ∷ v → Place next (equals ∷ v) → RefusedIn next (g.variant_value_at inside default key marked s)
  variant_value-doomed default key marked s v e p = rw (e, variant_value-equals default key marked v) (refused_in p)

  keyed-goes : (default marked : Bool) {s s' : Text} → At q next s s' →
      Goes q next Equal (g.key_at s >>= (λ key. g.variant_value_at inside default key.0 marked (skip_blank key.1))) (g.key_at s' >>= (λ key. g.variant_value_at inside default key.0 marked (skip_blank key.1)))
  keyed-goes default marked (at_before h) = goes-then _ _ (key-goes h) (λ key r r' m. variant_value-goes default key marked (at-blank n (at_before m)))
  keyed-goes default marked at_next = missed-bind _ _ (key-next n.head) (λ key rest v e p. variant_value-doomed default key marked (skip_blank rest) v e p)

  variant-goes : (default marked : Bool) (s s' : Text) → Before q (drop 1 s) (drop 1 s') → Goes q next Equal (g.variant_at inside default marked s) (g.variant_at inside default marked s')
  unfolding g.variant_at
  variant-goes default marked s s' h = keyed-goes default marked (at-blank n (at_before h))

  variant_or_end-goes : (default marked : Bool) {s s' : Text} → At q next s s' → Goes q next Equal (g.variant_or_end_at inside default marked s) (g.variant_or_end_at inside default marked s')
  unfolding g.variant_or_end_at
  variant_or_end-goes default marked {s} h = cases (begins_with open_bracket s)
      (λ b. rw (at-byte n open_bracket refl h, b) (variant-goes default marked _ _ (at-drop n open_bracket refl b h)))
      (λ b. cases marked
      (λ m. rw (at-byte n open_bracket refl h, b, m) (got-at _ h))
      (λ m. rw (at-byte n open_bracket refl h, b, m) (refuse-at h)))

  variants-goes : (marked : Bool) {s s' : Text} → At q next s s' → Goes q next Equal (g.variants_at inside marked s) (g.variants_at inside marked s')
  unfolding g.variants_at
  variants-goes marked {s} h = cases (begins_with asterisk s)
      (λ b. let u = at-drop n asterisk refl b h in cases marked
      (λ m. rw (at-byte n asterisk refl h, b, m) (same_refused u))
      (λ m. rw (at-byte n asterisk refl h, b, m) (variant_or_end-goes true true (at_before u))))
      (λ b. rw (at-byte n asterisk refl h, b) (variant_or_end-goes false marked h))

  pub step-goes : Goers q next (step inside)
  step-goes = record {
    inline = λ h. inline-goes h;
    inline_next = inline-next;
    arguments = λ names h. arguments-goes names h;
    arguments_doomed = arguments-equals;
    variants = λ marked h. variants-goes marked h;
    line = λ h. line-goes h;
    line_end = line-none;
    line_next = λ b. line-next b;
    pieces = λ h. pieces-goes h;
  }

-- readers below all others, which go on themselves
pub bottom : Readers
bottom = record {
  inline = λ s. refuse r.expected_inline_expression s;
  arguments = λ names s. refuse r.expected_inline_expression s;
  variants = λ marked s. refuse r.expected_inline_expression s;
  line = λ s. got [] (skip_blank_block s);
  pieces = λ s. refuse r.expected_inline_expression s;
}

block-got : {q next s s' : Text} → At q next s s' → Goes q next More (got [] s) (got [] s')
block-got (at_before h) = same_got h
block-got at_next = crossed_got (more_blank [] refl)

bottom-line : {next : Text} (b : Text) → skip_blank_block (b ++ next) ≡ next → LineEnds next (got [] (skip_blank_block (b ++ next)))
bottom-line b e = rw e (line_ends refl)

pub levels-go : {q next : Text} → Next q next → (m : ℕ) → Goers q next (levels bottom m)
unfolding bottom
levels-go n zero = record {
  inline = λ h. same_refused h;
  inline_next = missed (refused_in at_head);
  arguments = λ names h. refuse-at h;
  arguments_doomed = λ names v p. refused_in p;
  variants = λ marked h. refuse-at h;
  line = λ h. block-got (before-block n h);
  line_end = refl;
  line_next = λ {b} d. bottom-line b (next-block (record { blanks = b; lines = d; whole = refl; head = n.head }));
  pieces = λ h. same_refused h;
}
levels-go n (suc m) = step-goes n (levels bottom m) (levels-go n m)
