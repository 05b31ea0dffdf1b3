-- Reading goes on from a text into the next, which has blank lines and then the end, or the head of an entry: where it stopped
-- before, it does so again; otherwise it stops where the head begins, or is refused in the head.
use Rattle.std.proofs.Common.{◌≡◌, ℕ, Bool, true, false, ◌&&◌, ◌||◌, [], ◌∷◌, ◌++◌, length, drop, replicate, Option, Some, None, refl, ◌∙◌, arith, append_assoc}
use Rattle.std.specs.Prelude.{◌==◌}
use Rattle.std.proofs.lemmas.Bool.Decides.{nat_tests}
use Rattle.fluent_grammar.specs.Words.{Text, line_feed, carriage_return, space, comma, equals, number_sign, hyphen, is_letter, begins, begins_with, begins_crlf, begins_entry, name_len, spaces, skip_blank, skip_spaces, skip_separator, skip_blank_block, blank_lines, after_line_end}
use Rattle.fluent_grammar.specs.Refusal.{Kind, Reading, got, refuse, mapped, ◌>>=◌}
use Rattle.fluent_grammar.specs.Blanks.{BlankLines, no_lines, ends_lf, ends_crlf}
use Rattle.fluent_grammar.specs.Lines.{pattern_ends}
use Rattle.fluent_grammar.proofs.Cases.{cases}
use Rattle.fluent_grammar.proofs.Blanks.{block-skipped}
use Rattle.fluent_tidy_laws.proofs.Alike.{Alike, last, more}
use Rattle.fluent_tidy_laws.proofs.MovingWords.{over-no_end, alike-skip_spaces, pattern_ends-moves, blank-replicate}
use Rattle.fluent_tidy_laws.proofs.MovingEntries.{Stops, stops_empty, stops_here, stops-over, entry-skip}
use Rattle.fluent_tidy_laws.proofs.LineFeeds.{EndsInFeed, lf_last, lf_later, lf-begins, lf-two, lf-run, lf-split, lf-some}
use Rattle.fluent_tidy_laws.proofs.TextParts.{append-some}
use Rattle.fluent_grammar.proofs.Complete.{some_text}

-- ---- what comes

-- the head of an entry: a sign, or a name and an equals sign
pub data Head : Text → Type 0 where
  no_head : Head []
  sign_head : {s : Text} → Head (number_sign ∷ s)
  name_head : {s v : Text} → begins is_letter s ≡ true → skip_spaces (drop (name_len s) s) ≡ equals ∷ v → Head s
  term_head : {s v : Text} → begins is_letter s ≡ true → skip_spaces (drop (name_len s) s) ≡ equals ∷ v → Head (hyphen ∷ s)

pub record Next (q next : Text) : Type 0 where
  pub blanks : Text
  pub lines : BlankLines blanks
  pub whole : q ≡ blanks ++ next
  pub head : Head next

-- a place where reading is refused: before the head, at its equals sign, or after its minus
pub data Place (next : Text) : Text → Type 0 where
  in_front : Place next next
  at_equals : {v : Text} → begins is_letter next ≡ true → skip_spaces (drop (name_len next) next) ≡ equals ∷ v → Place next (equals ∷ v)
  at_term_equals : {s v : Text} → next ≡ hyphen ∷ s → begins is_letter s ≡ true → skip_spaces (drop (name_len s) s) ≡ equals ∷ v → Place next (equals ∷ v)
  behind_hyphen : {s v : Text} → next ≡ hyphen ∷ s → begins is_letter s ≡ true → skip_spaces (drop (name_len s) s) ≡ equals ∷ v → Place next s

pub data RefusedIn (next : Text) {A : Type 0} : Reading A → Type 0 where
  refused_in : {kind : Kind} {at : Text} → Place next at → RefusedIn next (refuse kind at)

-- a text, and the same text when it goes on
pub data Before (q : Text) : Text → Text → Type 0 where
  before : {s : Text} → EndsInFeed s → Before q s (s ++ q)

-- the same, or the end and the head of what comes
pub data At (q next : Text) : Text → Text → Type 0 where
  at_before : {s s' : Text} → Before q s s' → At q next s s'
  at_next : At q next [] next

-- the same, or the end and a line start before the head
pub data LineAt (q next : Text) : Text → Text → Type 0 where
  line_before : {s s' : Text} → Before q s s' → LineAt q next s s'
  line_next : {b : Text} → BlankLines b → LineAt q next [] (b ++ next)

pub data Equal {A : Type 0} : A → A → Type 0 where
  equal : {a : A} → Equal a a

abbrev pub Never : {A : Type 0} → A → A → Type 0
Never a b = ⊥

-- What is read of a text, and of the text that goes on; at the end, values are related.
pub data Goes (q next : Text) {A : Type 0} (R : A → A → Type 0) : Reading A → Reading A → Type 0 where
  same_got : {a : A} {rest rest' : Text} → Before q rest rest' → Goes q next R (got a rest) (got a rest')
  same_refused : {kind kind' : Kind} {at at' : Text} → Before q at at' → Goes q next R (refuse kind at) (refuse kind' at')
  crossed_got : {a a' : A} → R a a' → Goes q next R (got a []) (got a' next)
  crossed_refused : {kind : Kind} {y : Reading A} → RefusedIn next y → Goes q next R (refuse kind []) y

-- what reads a name: at the head it may get one, up to the equals sign (or, as this tells, to what is skipped before it)
pub data Missed (next : Text) (skip : Text → Text) {A : Type 0} : Reading A → Reading A → Type 0 where
  missed : {kind : Kind} {y : Reading A} → RefusedIn next y → Missed next skip (refuse kind []) y
  doomed : {kind : Kind} {a : A} {rest v : Text} → skip rest ≡ equals ∷ v → Place next (equals ∷ v) → Missed next skip (refuse kind []) (got a rest)

-- ---- texts

pub head-stops : {s : Text} → Head s → Stops s
head-stops no_head = stops_empty
head-stops sign_head = stops_here refl
head-stops (name_head {s} b e) = stops_here (letter s b)
  where
    letter : (s : Text) → begins is_letter s ≡ true → begins begins_entry s ≡ true
    letter [] h = absurd cc
    letter (c ∷ cs) h = rw h refl
head-stops (term_head b e) = stops_here refl

pub lf-alike : {s : Text} (q : Text) → EndsInFeed s → Alike line_feed [] q s (s ++ q)
lf-alike q lf_last = last
lf-alike q (lf_later c f) = more c (lf-alike q f)

-- no byte but one that begins an entry
stops-byte : (c : ℕ) (s : Text) → begins_entry c ≡ false → Stops s → begins_with c s ≡ false
stops-byte c s n stops_empty = refl
stops-byte c s n (stops_here h) = here s h
  where
    here : (s : Text) → begins begins_entry s ≡ true → begins_with c s ≡ false
    here [] h = refl
    here (d ∷ ds) h = cases (d == c)
        (λ e. let k : d ≡ c = grind arith in absurd (let m : begins_entry c ≡ true = rw (← k) h in cc))
        (λ e. e)

module _ {q next : Text} (n : Next q next) where
  pub at-byte : {s s' : Text} (c : ℕ) → begins_entry c ≡ false → At q next s s' → begins_with c s' ≡ begins_with c s
  at-byte c e (at_before (before f)) = lf-begins (λ d. d == c) q f
  at-byte c e at_next = stops-byte c next e (head-stops n.head)

  pub at-drop : {s s' : Text} (c : ℕ) → (line_feed == c) ≡ false → begins_with c s ≡ true → At q next s s' → Before q (drop 1 s) (drop 1 s')
  at-drop c e b (at_before (before lf_last)) = absurd cc
  at-drop c e b (at_before (before (lf_later d f))) = before f
  at-drop c e b at_next = absurd cc

  pub at-some : {s s' : Text} (p : ℕ → Bool) → begins p s ≡ true → At q next s s' → Before q s s'
  at-some p b (at_before h) = h
  at-some p b at_next = absurd cc

pub before-begins : {q s s' : Text} (p : ℕ → Bool) → Before q s s' → begins p s' ≡ begins p s
before-begins p (before f) = lf-begins p _ f

pub before-drop : {q s s' : Text} (p : ℕ → Bool) → p line_feed ≡ false → begins p s ≡ true → Before q s s' → Before q (drop 1 s) (drop 1 s')
before-drop p e b (before lf_last) = absurd cc
before-drop p e b (before (lf_later d f)) = before f

pub before-spaces : {q s s' : Text} → Before q s s' → Before q (skip_spaces s) (skip_spaces s')
before-spaces {q} (before f) = let d = lf-split (λ c. c == space) q refl f in rw (lf-run (λ c. c == space) q refl f, d.2) (before d.0)

-- a place where no blank is
head-blank : {s : Text} → Head s → skip_blank s ≡ s
head-blank {s} h = stops s (head-stops h)
  where
    first : (c : ℕ) (cs : Text) → begins_entry c ≡ true → skip_blank (c ∷ cs) ≡ c ∷ cs
    first c cs h =
        let a : (c == space) ≡ false = grind (arith, nat_tests) in
        let b : (c == line_feed) ≡ false = grind (arith, nat_tests) in
        let d : (c == carriage_return) ≡ false = grind (arith, nat_tests) in
        rw (a, b, d) refl

    here : (s : Text) → begins begins_entry s ≡ true → skip_blank s ≡ s
    here [] h = refl
    here (c ∷ cs) h = first c cs h

    stops : (s : Text) → Stops s → skip_blank s ≡ s
    stops s stops_empty = refl
    stops s (stops_here h) = here s h

blank-lines : {b : Text} (s : Text) → BlankLines b → skip_blank (b ++ s) ≡ skip_blank s
blank-lines s no_lines = refl
blank-lines s (ends_lf {more = m} k d) = rw (append_assoc (replicate k space) (line_feed ∷ m) s) (blank-replicate k (line_feed ∷ (m ++ s)) ∙ blank-lines s d)
blank-lines s (ends_crlf {more = m} k d) = rw (append_assoc (replicate k space) (carriage_return ∷ line_feed ∷ m) s) (blank-replicate k (carriage_return ∷ line_feed ∷ (m ++ s)) ∙ blank-lines s d)

pub next-blank : {q next : Text} → Next q next → skip_blank q ≡ next
next-blank {q} {next} n = rw n.whole (blank-lines next n.lines ∙ head-blank n.head)

pub next-block : {q next : Text} → Next q next → skip_blank_block q ≡ next
next-block {q} {next} n = block-skipped n.blanks q next (record { split = n.whole; lines = n.lines; longest = over-no_end (stops-over (head-stops n.head)) })

pub head-block : {s : Text} → Head s → skip_blank_block s ≡ s
head-block {s} h = block-skipped [] s s (record { split = refl; lines = no_lines; longest = over-no_end (stops-over (head-stops h)) })

pub at-equal : {q next s s' u : Text} → s' ≡ u → At q next s u → At q next s s'
at-equal e h = rw e h

end-blank : {q next s : Text} → Next q next → EndsInFeed s → At q next (skip_blank s) (skip_blank (s ++ q))
end-blank n lf_last = at-equal (next-blank n) at_next
end-blank {q} n (lf_later {s} c f) = cases (c == space || c == line_feed)
    (λ e. rw e (end-blank n f))
    (λ e. cases (c == carriage_return && begins_with line_feed s)
    (λ k. rw (e, lf-begins (λ y. y == line_feed) q f, k) (end-blank n f))
    (λ k. rw (e, lf-begins (λ y. y == line_feed) q f, k) (at_before (before (lf_later c f)))))

pub at-blank : {q next s s' : Text} → Next q next → At q next s s' → At q next (skip_blank s) (skip_blank s')
at-blank n (at_before (before f)) = end-blank n f
at-blank n at_next = at-equal (head-blank n.head) at_next

pub end-next : {q next : Text} → Next q next → At q next (skip_blank []) (skip_blank q)
end-next n = at-equal (next-blank n) at_next

pub at-separator : {q next s s' : Text} → Next q next → At q next s s' → At q next (skip_separator s) (skip_separator s')
at-separator {s = s} n h = let k = at-blank n h in cases (begins_with comma (skip_blank s))
    (λ e. rw (at-byte n comma refl k, e) (at-blank n (at_before (at-drop n comma refl e k))))
    (λ e. rw (at-byte n comma refl k, e) (at-blank n k))

-- the line end at the front
pub data Ends (q : Text) : Option Text → Option Text → Type 0 where
  no_end : Ends q None None
  some_before : {r r' : Text} → Before q r r' → Ends q (Some r) (Some r')
  some_end : Ends q (Some []) (Some q)

feed-ends : {q s : Text} → begins_with line_feed s ≡ true → EndsInFeed s → Ends q (Some (drop 1 s)) (Some (drop 1 (s ++ q)))
feed-ends b lf_last = some_end
feed-ends b (lf_later c f) = some_before (before f)

crlf-ends : {q s : Text} → begins_crlf s ≡ true → EndsInFeed s → Ends q (Some (drop 2 s)) (Some (drop 2 (s ++ q)))
crlf-ends b lf_last = absurd cc
crlf-ends b (lf_later c lf_last) = some_end
crlf-ends b (lf_later c (lf_later d f)) = some_before (before f)

pub lf-crlf : {s : Text} (q : Text) → EndsInFeed s → begins_crlf (s ++ q) ≡ begins_crlf s
lf-crlf q f = lf-two carriage_return line_feed q refl f

pub before-end : {q s s' : Text} → Before q s s' → Ends q (after_line_end s) (after_line_end s')
before-end {q} (before {s} f) = cases (begins_with line_feed s)
    (λ e. rw (lf-begins (λ y. y == line_feed) q f, e) (feed-ends e f))
    (λ e. cases (begins_crlf s)
    (λ k. rw (lf-begins (λ y. y == line_feed) q f, e, lf-crlf q f, k) (crlf-ends k f))
    (λ k. rw (lf-begins (λ y. y == line_feed) q f, e, lf-crlf q f, k) no_end))

-- a blank block
lf-lines : {q next line s : Text} → Next q next → EndsInFeed line → EndsInFeed s → At q next (blank_lines line s) (blank_lines (line ++ q) (s ++ q))
lf-lines n g lf_last = at-equal (next-block n) at_next
lf-lines {q} n g (lf_later {s} c f) = cases (c == line_feed)
    (λ e. rw e (lf-lines n f f))
    (λ e. cases (c == space || (c == carriage_return && begins_with line_feed s))
    (λ k. rw (e, lf-begins (λ y. y == line_feed) q f, k) (lf-lines n g f))
    (λ k. rw (e, lf-begins (λ y. y == line_feed) q f, k) (at_before (before g))))

pub before-block : {q next s s' : Text} → Next q next → Before q s s' → At q next (skip_blank_block s) (skip_blank_block s')
before-block n (before f) = lf-lines n f f

pub at-block : {q next s s' : Text} → Next q next → At q next s s' → At q next (skip_blank_block s) (skip_blank_block s')
at-block n (at_before h) = before-block n h
at-block n at_next = at-equal (head-block n.head) at_next

-- ---- readings

pub got-at : {A : Type 0} {q next r r' : Text} (a : A) → At q next r r' → Goes q next Equal (got a r) (got a r')
got-at a (at_before h) = same_got h
got-at a at_next = crossed_got equal

pub refuse-at : {A : Type 0} {R : A → A → Type 0} {q next r r' : Text} {kind kind' : Kind} → At q next r r' → Goes q next R (refuse kind r) (refuse kind' r')
refuse-at (at_before h) = same_refused h
refuse-at at_next = crossed_refused (refused_in in_front)

pub goes-mapped : {A B : Type 0} {R : A → A → Type 0} {S : B → B → Type 0} {q next : Text} {x y : Reading A} (f : A → B) → ((a a' : A) → R a a' → S (f a) (f a')) → Goes q next R x y → Goes q next S (mapped f x) (mapped f y)
goes-mapped f k (same_got h) = same_got h
goes-mapped f k (same_refused h) = same_refused h
goes-mapped f k (crossed_got h) = crossed_got (k _ _ h)
goes-mapped f k (crossed_refused (refused_in p)) = crossed_refused (refused_in p)

pub mapped-equal : {A B : Type 0} {q next : Text} {x y : Reading A} (f : A → B) → Goes q next Equal x y → Goes q next Equal (mapped f x) (mapped f y)
mapped-equal f h = goes-mapped f (λ a a' e. ap-equal f e) h
  where
    ap-equal : {A B : Type 0} {a a' : A} (f : A → B) → Equal a a' → Equal (f a) (f a')
    ap-equal f equal = equal

pub mapped-never : {A B : Type 0} {R : B → B → Type 0} {q next : Text} {x y : Reading A} (f : A → B) → Goes q next Never x y → Goes q next R (mapped f x) (mapped f y)
mapped-never f h = goes-mapped f (λ a a' e. absurd e) h

pub goes-never : {A : Type 0} {R : A → A → Type 0} {q next : Text} {x y : Reading A} → Goes q next Never x y → Goes q next R x y
goes-never (same_got h) = same_got h
goes-never (same_refused h) = same_refused h
goes-never (crossed_got h) = absurd h
goes-never (crossed_refused h) = crossed_refused h

pub refused-bind : {A B : Type 0} {next : Text} {y : Reading A} (f : A × Text → Reading B) → RefusedIn next y → RefusedIn next (y >>= f)
refused-bind f (refused_in p) = refused_in p

pub refused-mapped : {A B : Type 0} {next : Text} {y : Reading A} (f : A → B) → RefusedIn next y → RefusedIn next (mapped f y)
refused-mapped f (refused_in p) = refused_in p

-- after what is got before the end, or at the end the same
pub goes-bind : {A B : Type 0} {S : B → B → Type 0} {q next : Text} {x y : Reading A} (f f' : A × Text → Reading B) → Goes q next Equal x y →
    ((a : A) (r r' : Text) → At q next r r' → Goes q next S (f (a, r)) (f' (a, r'))) → Goes q next S (x >>= f) (y >>= f')
goes-bind f f' (same_got {a} {rest} {rest'} h) k = k a rest rest' (at_before h)
goes-bind f f' (same_refused h) k = same_refused h
goes-bind f f' (crossed_got equal) k = k _ [] _ at_next
goes-bind f f' (crossed_refused h) k = crossed_refused (refused-bind f' h)

-- after what is got before the end
pub goes-then : {A B : Type 0} {S : B → B → Type 0} {q next : Text} {x y : Reading A} (f f' : A × Text → Reading B) → Goes q next Never x y →
    ((a : A) (r r' : Text) → Before q r r' → Goes q next S (f (a, r)) (f' (a, r'))) → Goes q next S (x >>= f) (y >>= f')
goes-then f f' (same_got {a} {rest} {rest'} h) k = k a rest rest' h
goes-then f f' (same_refused h) k = same_refused h
goes-then f f' (crossed_got h) k = absurd h
goes-then f f' (crossed_refused h) k = crossed_refused (refused-bind f' h)

pub missed-bind : {A B : Type 0} {S : B → B → Type 0} {q next : Text} {skip : Text → Text} {x y : Reading A} (f f' : A × Text → Reading B) → Missed next skip x y →
    ((a : A) (rest v : Text) → skip rest ≡ equals ∷ v → Place next (equals ∷ v) → RefusedIn next (f' (a, rest))) → Goes q next S (x >>= f) (y >>= f')
missed-bind f f' (missed h) k = crossed_refused (refused-bind f' h)
missed-bind f f' (doomed {a = a} {rest} {v} e p) k = crossed_refused (k a rest v e p)

pub missed-refused : {A B : Type 0} {next : Text} {skip : Text → Text} {x y : Reading A} (f : A × Text → Reading B) → Missed next skip x y →
    ((a : A) (rest v : Text) → skip rest ≡ equals ∷ v → Place next (equals ∷ v) → RefusedIn next (f (a, rest))) → RefusedIn next (y >>= f)
missed-refused f (missed h) k = refused-bind f h
missed-refused f (doomed {a = a} {rest} {v} e p) k = k a rest v e p

pub line-equal : {q next s s' u : Text} → s' ≡ u → LineAt q next s u → LineAt q next s s'
line-equal e h = rw e h

pub line-end : {q next : Text} → Next q next → LineAt q next [] q
line-end n = line-equal n.whole (line_next n.lines)

pub crlf-line : {q next s s' : Text} → Next q next → begins_crlf s ≡ true → Before q s s' → LineAt q next (drop 2 s) (drop 2 s')
crlf-line n b (before lf_last) = absurd cc
crlf-line n b (before (lf_later c lf_last)) = line-end n
crlf-line n b (before (lf_later c (lf_later d f))) = line_before (before f)

pub before-alike : {q s s' : Text} → Before q s s' → Alike line_feed [] q s s'
before-alike (before f) = lf-alike _ f

pub before-count : {q s s' : Text} → Before q s s' → spaces s' ≡ spaces s
before-count (before f) = lf-run (λ c. c == space) _ refl f

pub before-ends : {q s s' : Text} → Before q s s' → pattern_ends s' ≡ pattern_ends s
before-ends {s = s} {s'} h = pattern_ends-moves s s' (before-count h) (before-alike h) (alike-skip_spaces refl (before-alike h))

pub head-spaces : {s : Text} → Head s → skip_spaces s ≡ s
head-spaces {s} h = stops s (head-stops h)
  where
    stops : (s : Text) → Stops s → skip_spaces s ≡ s
    stops s stops_empty = refl
    stops s (stops_here h) = entry-skip s h

pub at-spaces : {q next s s' : Text} → Next q next → At q next s s' → At q next (skip_spaces s) (skip_spaces s')
at-spaces n (at_before h) = at_before (before-spaces h)
at-spaces n at_next = at-equal (head-spaces n.head) at_next

pub before-some : {q s s' : Text} → Before q s s' → ((length s == 0) ≡ false) × ((length s' == 0) ≡ false)
before-some {q} (before {s} f) = (some_text s (lf-some f), some_text (s ++ q) (append-some s q (lf-some f)))
