-- LF in place of CR LF, line by line.
use Rattle.std.proofs.Common.{◌≡◌, ℕ, zero, suc, ◌+◌, ◌<◌, Bool, true, false, ◌==◌, ◌||◌, [], ◌∷◌, ◌++◌, Some, None, length, take, drop, slice_index, refl, sym, ap, ◌∙◌, arith, append_assoc, add-one}
use Rattle.std.specs.Prelude.{◌&&◌, ◌≢◌, if◌then◌else◌}
use Rattle.std.specs.List.{list_all, list_any}
use Rattle.std.specs.Str.{IsUtf8, IsCharBoundary}
use Rattle.std.proofs.lemmas.Str.{IsCharBoundary-after_ascii}
use Rattle.memchr.specs.Find.{IsFirstByte, is_byte}
use Rattle.fluent_grammar.specs.Words.{Text, line_feed, carriage_return, space, begins_with, begins_crlf, skip_spaces}
use Rattle.fluent_grammar.proofs.Blanks.{skip_spaces-other}
use Rattle.fluent_tokens.proofs.Scanned.{test_of}
use Rattle.fluent_tidy_laws.proofs.MovingWords.{skip_spaces-more}
use Rattle.fluent_tidy.specs.TidyText.{line_feeds_from, with_line_feeds}

-- whether a line feed is in a text
abbrev pub holds_feed : Text → Bool
holds_feed s = list_any (λ c. c == line_feed) s

neither : (a b : Bool) → (a || b) ≡ false → (a ≡ false) × (b ≡ false)
neither true b e = absurd cc
neither false b e = (refl, e)

and-true : (b : Bool) → (b && true) ≡ b
and-true true = refl
and-true false = refl

and-false : (b : Bool) → (b && false) ≡ false
and-false true = refl
and-false false = refl

not_true : (b : Bool) → (b ≡ true → ⊥) → b ≡ false
not_true true h = absurd (h refl)
not_true false h = refl

-- without a line feed in it a text doesn't begin with one
no_feed_first : (s : Text) → holds_feed s ≡ false → begins_with line_feed s ≡ false
no_feed_first [] h = refl
no_feed_first (c ∷ cs) h = (neither (c == line_feed) (holds_feed cs) h).0

-- a line without its carriage return
abbrev line_text : Text → Text
line_text [] = []
line_text (c ∷ []) = if c == carriage_return then [] else c ∷ []
line_text (c ∷ d ∷ ds) = c ∷ line_text (d ∷ ds)

-- whether it has only spaces before a carriage return
abbrev is_blank_line : Text → Bool
is_blank_line [] = false
is_blank_line (c ∷ []) = c == carriage_return
is_blank_line (c ∷ d ∷ ds) = c == space && is_blank_line (d ∷ ds)

space-is : (c : ℕ) → (c == space) ≡ true → (c == carriage_return) ≡ false
space-is c e = rw (test_of c space e) refl

-- after a first byte, by whether it is a space
crlf-one : (c : ℕ) (b : Bool) (rest : Text) → (c == space) ≡ b → begins_crlf (skip_spaces (c ∷ line_feed ∷ rest)) ≡ (c == carriage_return)
crlf-one c true rest e = ap begins_crlf (skip_spaces-more c (line_feed ∷ rest) e) ∙ sym (space-is c e)
crlf-one c false rest e = ap begins_crlf (skip_spaces-other c (line_feed ∷ rest) e) ∙ and-true (c == carriage_return)

crlf-more : (c d : ℕ) (ds : Text) (b : Bool) → (c == space) ≡ b → (d == line_feed) ≡ false → begins_crlf (skip_spaces (c ∷ d ∷ ds)) ≡ (b && begins_crlf (skip_spaces (d ∷ ds)))
crlf-more c d ds true e n = ap begins_crlf (skip_spaces-more c (d ∷ ds) e)
crlf-more c d ds false e n = ap begins_crlf (skip_spaces-other c (d ∷ ds) e) ∙ ap (λ b. (c == carriage_return) && b) n ∙ and-false (c == carriage_return)

-- whether a line is blank before a CR LF
blank-is : (s rest : Text) → holds_feed s ≡ false → begins_crlf (skip_spaces (s ++ line_feed ∷ rest)) ≡ is_blank_line s
blank-is [] rest h = refl
blank-is (c ∷ []) rest h = crlf-one c (c == space) rest refl
blank-is (c ∷ d ∷ ds) rest h =
    let more = (neither (c == line_feed) (holds_feed (d ∷ ds)) h).1 in
    crlf-more c d (ds ++ line_feed ∷ rest) (c == space) refl (no_feed_first (d ∷ ds) more) ∙ ap (λ b. (c == space) && b) (blank-is (d ∷ ds) rest more)

-- without a line feed there is no CR LF
no_crlf : (s : Text) → holds_feed s ≡ false → begins_crlf (skip_spaces s) ≡ false
no_crlf [] h = refl
no_crlf (c ∷ []) h = by_space (c == space) refl
  where
    by_space : (b : Bool) → (c == space) ≡ b → begins_crlf (skip_spaces (c ∷ [])) ≡ false
    by_space true e = ap begins_crlf (skip_spaces-more c [] e)
    by_space false e = ap begins_crlf (skip_spaces-other c [] e) ∙ and-false (c == carriage_return)
no_crlf (c ∷ d ∷ ds) h =
    let more = (neither (c == line_feed) (holds_feed (d ∷ ds)) h).1 in
    crlf-more c d ds (c == space) refl (no_feed_first (d ∷ ds) more) ∙ ap (λ b. (c == space) && b) (no_crlf (d ∷ ds) more) ∙ and-false (c == space)

-- a byte that stays
kept : (at : Bool) (c : ℕ) (cs : Text) → (c == carriage_return && begins_with line_feed cs) ≡ false → (at && (c == space && begins_crlf (skip_spaces cs))) ≡ false → (c == line_feed) ≡ false →
    line_feeds_from at (c ∷ cs) ≡ c ∷ line_feeds_from false cs
kept at c cs r s n = rw (r, s, n) refl

-- the rest of a line, from within it on
line-within : (s rest : Text) → holds_feed s ≡ false → line_feeds_from false (s ++ line_feed ∷ rest) ≡ line_text s ++ line_feed ∷ with_line_feeds rest
line-within [] rest h = refl
line-within (c ∷ []) rest h = by_return (c == carriage_return) refl
  where
    by_return : (b : Bool) → (c == carriage_return) ≡ b → line_feeds_from false (c ∷ line_feed ∷ rest) ≡ line_text (c ∷ []) ++ line_feed ∷ with_line_feeds rest
    by_return true e = rw e refl
    by_return false e = rw (e, (neither (c == line_feed) false h).0) refl
line-within (c ∷ d ∷ ds) rest h =
    let n = neither (c == line_feed) (holds_feed (d ∷ ds)) h in
    kept false c (d ∷ (ds ++ line_feed ∷ rest)) (ap (λ b. (c == carriage_return) && b) (no_feed_first (d ∷ ds) n.1) ∙ and-false (c == carriage_return)) refl n.0
    ∙ ap (λ z. c ∷ z) (line-within (d ∷ ds) rest n.1)

-- a line that is blank before its carriage return
line-blank : (s rest : Text) → holds_feed s ≡ false → is_blank_line s ≡ true → line_feeds_from true (s ++ line_feed ∷ rest) ≡ line_feed ∷ with_line_feeds rest
line-blank [] rest h b = absurd cc
line-blank (c ∷ []) rest h b = rw b refl
line-blank (c ∷ d ∷ ds) rest h b =
    let n = neither (c == line_feed) (holds_feed (d ∷ ds)) h in
    let both = split (c == space) (is_blank_line (d ∷ ds)) b in
    dropped c (d ∷ (ds ++ line_feed ∷ rest)) (ap (λ b. (c == carriage_return) && b) (no_feed_first (d ∷ ds) n.1) ∙ and-false (c == carriage_return)) both.0 (blank-is (d ∷ ds) rest n.1 ∙ both.1)
    ∙ line-blank (d ∷ ds) rest n.1 both.1
  where
    split : (a b : Bool) → (a && b) ≡ true → (a ≡ true) × (b ≡ true)
    split true b h = (refl, h)
    split false b h = absurd cc

    dropped : (c : ℕ) (cs : Text) → (c == carriage_return && begins_with line_feed cs) ≡ false → (c == space) ≡ true → begins_crlf (skip_spaces cs) ≡ true → line_feeds_from true (c ∷ cs) ≡ line_feeds_from true cs
    dropped c cs r s e = rw (r, s, e) refl

-- any other line
line-kept : (s rest : Text) → holds_feed s ≡ false → is_blank_line s ≡ false → line_feeds_from true (s ++ line_feed ∷ rest) ≡ line_text s ++ line_feed ∷ with_line_feeds rest
line-kept [] rest h b = refl
line-kept (c ∷ []) rest h b = kept true c (line_feed ∷ rest) (ap (λ z. z && true) b) (and-false (c == space)) (neither (c == line_feed) false h).0 ∙ rw b refl
line-kept (c ∷ d ∷ ds) rest h b =
    let n = neither (c == line_feed) (holds_feed (d ∷ ds)) h in
    kept true c (d ∷ (ds ++ line_feed ∷ rest)) (ap (λ b. (c == carriage_return) && b) (no_feed_first (d ∷ ds) n.1) ∙ and-false (c == carriage_return)) (ap (λ z. (c == space) && z) (blank-is (d ∷ ds) rest n.1) ∙ b) n.0
    ∙ ap (λ z. c ∷ z) (line-within (d ∷ ds) rest n.1)

-- what is left of a line
abbrev pub line_left : Text → Text
line_left s = if is_blank_line s then [] else line_text s

pub line-is : (s rest : Text) → holds_feed s ≡ false → with_line_feeds (s ++ line_feed ∷ rest) ≡ line_left s ++ line_feed ∷ with_line_feeds rest
line-is s rest h = by_blank (is_blank_line s) refl
  where
    by_blank : (b : Bool) → is_blank_line s ≡ b → with_line_feeds (s ++ line_feed ∷ rest) ≡ line_left s ++ line_feed ∷ with_line_feeds rest
    by_blank true e = line-blank s rest h e ∙ rw e refl
    by_blank false e = line-kept s rest h e ∙ rw e refl

-- a text without a line feed stays
pub no_feed-stays : (at : Bool) (s : Text) → holds_feed s ≡ false → line_feeds_from at s ≡ s
no_feed-stays at [] h = refl
no_feed-stays at (c ∷ cs) h =
    let n = neither (c == line_feed) (holds_feed cs) h in
    kept at c cs (ap (λ b. (c == carriage_return) && b) (no_feed_first cs n.1) ∙ and-false (c == carriage_return))
    (ap (λ b. at && ((c == space) && b)) (no_crlf cs n.1) ∙ ap (λ b. at && b) (and-false (c == space)) ∙ and-false at) n.0
    ∙ ap (λ z. c ∷ z) (no_feed-stays false cs n.1)

-- ---- what code finds of a line

-- spaces before a carriage return
pub left-blank : (s : Text) → list_all (λ c. c == space) s ≡ true → line_left (s ++ carriage_return ∷ []) ≡ []
left-blank s h = rw (blank s h) refl
  where
    blank : (s : Text) → list_all (λ c. c == space) s ≡ true → is_blank_line (s ++ carriage_return ∷ []) ≡ true
    blank [] h = refl
    blank (c ∷ []) h = h
    blank (c ∷ d ∷ ds) h = both (c == space) (list_all (λ c. c == space) (d ∷ ds)) (is_blank_line ((d ∷ ds) ++ carriage_return ∷ [])) h (blank (d ∷ ds))
      where
        both : (a b d : Bool) → (a && b) ≡ true → (b ≡ true → d ≡ true) → (a && d) ≡ true
        both true b d h k = k h
        both false b d h k = absurd cc

-- anything else before it
pub left-returned : (s : Text) → list_all (λ c. c == space) s ≡ false → line_left (s ++ carriage_return ∷ []) ≡ s
left-returned s h = rw (not_blank s h) (text s)
  where
    not_blank : (s : Text) → list_all (λ c. c == space) s ≡ false → is_blank_line (s ++ carriage_return ∷ []) ≡ false
    not_blank [] h = absurd cc
    not_blank (c ∷ []) h = h
    not_blank (c ∷ d ∷ ds) h = either (c == space) (list_all (λ c. c == space) (d ∷ ds)) (is_blank_line ((d ∷ ds) ++ carriage_return ∷ [])) h (not_blank (d ∷ ds))
      where
        either : (a b d : Bool) → (a && b) ≡ false → (b ≡ false → d ≡ false) → (a && d) ≡ false
        either true b d h k = k h
        either false b d h k = refl

    text : (s : Text) → line_text (s ++ carriage_return ∷ []) ≡ s
    text [] = refl
    text (c ∷ []) = refl
    text (c ∷ d ∷ ds) = ap (λ z. c ∷ z) (text (d ∷ ds))

-- no carriage return at the end
pub left-other : (s : Text) → ((front : Text) → s ≢ front ++ carriage_return ∷ []) → line_left s ≡ s
left-other s h = rw (not_blank s h) (text s h)
  where
    not_blank : (s : Text) → ((front : Text) → s ≢ front ++ carriage_return ∷ []) → is_blank_line s ≡ false
    not_blank [] h = refl
    not_blank (c ∷ []) h = not_true (c == carriage_return) (λ e. h [] (ap (λ z. z ∷ []) (test_of c carriage_return e)))
    not_blank (c ∷ d ∷ ds) h = ap (λ b. (c == space) && b) (not_blank (d ∷ ds) (λ front e. h (c ∷ front) (ap (λ z. c ∷ z) e))) ∙ and-false (c == space)

    text : (s : Text) → ((front : Text) → s ≢ front ++ carriage_return ∷ []) → line_text s ≡ s
    text [] h = refl
    text (c ∷ []) h = rw (not_true (c == carriage_return) (λ e. h [] (ap (λ z. z ∷ []) (test_of c carriage_return e)))) refl
    text (c ∷ d ∷ ds) h = ap (λ z. c ∷ z) (text (d ∷ ds) (λ front e. h (c ∷ front) (ap (λ z. c ∷ z) e)))

-- what is left of a line before its line feed, by what stands before that
pub blank-left : (line text : Text) → line ≡ text ++ carriage_return ∷ [] → holds_feed line ≡ false → list_all (λ c. c == space) text ≡ true → with_line_feeds (line ++ line_feed ∷ []) ≡ line_feed ∷ []
blank-left line text e none blank = line-is line [] none ∙ ap (λ z. line_left z ++ line_feed ∷ []) e ∙ ap (λ z. z ++ line_feed ∷ []) (left-blank text blank)

pub returned-left : (line text : Text) → line ≡ text ++ carriage_return ∷ [] → holds_feed line ≡ false → list_all (λ c. c == space) text ≡ false → with_line_feeds (line ++ line_feed ∷ []) ≡ text ++ line_feed ∷ []
returned-left line text e none some = line-is line [] none ∙ ap (λ z. line_left z ++ line_feed ∷ []) e ∙ ap (λ z. z ++ line_feed ∷ []) (left-returned text some)

pub other-left : (line : Text) → ((front : Text) → line ≢ front ++ carriage_return ∷ []) → holds_feed line ≡ false → with_line_feeds (line ++ line_feed ∷ []) ≡ line ++ line_feed ∷ []
other-left line other none = line-is line [] none ∙ ap (λ z. z ++ line_feed ∷ []) (left-other line other)

-- ---- the lines of a text, one after the other

pub no_feed_before : (s : Text) (k : ℕ) → ((j : ℕ) → j < k → (slice_index s j == line_feed) ≡ true → ⊥) → holds_feed (take k s) ≡ false
no_feed_before s zero none = refl
no_feed_before [] (suc k) none = refl
no_feed_before (c ∷ cs) (suc k) none =
    rw (not_true (c == line_feed) (λ e. none 0 (omega arith) e)) (no_feed_before cs k (λ j l e. none (suc j) (omega (arith, l)) e))

pub no_feed_in : (s : Text) → IsFirstByte (is_byte line_feed) s None → holds_feed s ≡ false
no_feed_in s h = nowhere s (λ k lt e. h k (omega arith) lt e)
  where
    nowhere : (s : Text) → ((k : ℕ) → k < length s → (slice_index s k == line_feed) ≡ true → ⊥) → holds_feed s ≡ false
    nowhere [] h = refl
    nowhere (c ∷ cs) h = rw (not_true (c == line_feed) (λ e. h 0 (omega arith) e)) (nowhere cs (λ k lt e. h (suc k) (omega (arith, lt)) e))

parted : (s : Text) (k : ℕ) → k < length s → (slice_index s k == line_feed) ≡ true → s ≡ take k s ++ line_feed ∷ drop (suc k) s
parted [] k lt e = absurd (omega (arith, lt))
parted (c ∷ cs) zero lt e = ap (λ z. z ∷ cs) (test_of c line_feed e)
parted (c ∷ cs) (suc k) lt e = ap (λ z. c ∷ z) (parted cs k (omega (arith, lt)) e)

-- before a line feed that was found there is none
pub line_found : (s part : Text) (k : ℕ) → IsFirstByte (is_byte line_feed) s (Some k) → part ≡ take k s → holds_feed part ≡ false
line_found s part k h p = ap holds_feed p ∙ no_feed_before s k (λ j l e. h.0.before j (omega arith) l e)

-- a character begins after it
pub feed_ends : (s : Text) (k : ℕ) → IsUtf8 s → IsFirstByte (is_byte line_feed) s (Some k) → IsCharBoundary s (k + 1)
feed_ends s k u h = let e = test_of (slice_index s k) line_feed h.1 in IsCharBoundary-after_ascii s k u h.0.high (omega (arith, e))

-- a step: what was there, and what is left of a line
pub lines_go_on : (old new text left part kept_part rest : Text) (k : ℕ) → old ++ with_line_feeds left ≡ text → IsFirstByte (is_byte line_feed) left (Some k) → part ≡ take k left → rest ≡ drop (k + 1) left →
    with_line_feeds (part ++ line_feed ∷ []) ≡ kept_part ++ line_feed ∷ [] → new ≡ (old ++ kept_part) ++ line_feed ∷ [] → new ++ with_line_feeds rest ≡ text
lines_go_on old new text left part kept_part rest k h first p r is n =
    let none = line_found left part k first p in
    let whole : left ≡ part ++ line_feed ∷ rest = parted left k first.0.high first.1 ∙ rw (r, p, add-one) refl in
    let feeds : with_line_feeds left ≡ (kept_part ++ line_feed ∷ []) ++ with_line_feeds rest =
    ap with_line_feeds whole ∙ line-is part rest none ∙ sym (append_assoc (line_left part) (line_feed ∷ []) (with_line_feeds rest))
    ∙ ap (λ z. z ++ with_line_feeds rest) (sym (line-is part [] none) ∙ is) in
    ap (λ z. z ++ with_line_feeds rest) (n ∙ append_assoc old kept_part (line_feed ∷ []))
    ∙ append_assoc old (kept_part ++ line_feed ∷ []) (with_line_feeds rest)
    ∙ ap (λ z. old ++ z) (sym feeds)
    ∙ h

-- the last line, which has no line feed
pub lines_done : (old new text left : Text) → old ++ with_line_feeds left ≡ text → IsFirstByte (is_byte line_feed) left None → new ≡ old ++ left → new ≡ text
lines_done old new text left h none n = n ∙ ap (λ z. old ++ z) (sym (no_feed-stays true left (no_feed_in left none))) ∙ h
