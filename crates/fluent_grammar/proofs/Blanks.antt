-- Blank blocks and lines are what is skipped for them.
use Rattle.std.proofs.Common.{◌≡◌, ℕ, zero, suc, Bool, true, false, not, ◌&&◌, [], ◌∷◌, ◌++◌, drop, Some, None, refl, sym, ap, ◌∙◌, append_assoc, inl, inr, eqb-true, replicate}
use Rattle.std.specs.Prelude.{◌==◌, ◌⊎◌}
use Rattle.std.specs.List.{list_all}
use Rattle.fluent_grammar.specs.Words.{Text, line_feed, carriage_return, space, spaces, skip_spaces, begins_with, after_line_end, blank_lines, skip_blank_block, rest_of_line}
use Rattle.fluent_grammar.specs.Blanks.{BlankLines, no_lines, ends_lf, ends_crlf, BlankBlock, Line}
use Rattle.fluent_grammar.specs.TilingLaws.{BlankBlocksAreSkipped, LinesAreLeft}
use Rattle.fluent_grammar.proofs.Cases.{cases, and-left, and-right}
use Rattle.fluent_grammar.proofs.Taken.{one-plus}

-- spaces at the front
skip_spaces-more : (s : Text) → skip_spaces (space ∷ s) ≡ skip_spaces s
skip_spaces-more s = rw (one-plus (spaces s)) refl

pub skip_spaces-other : (c : ℕ) (s : Text) → (c == space) ≡ false → skip_spaces (c ∷ s) ≡ c ∷ s
skip_spaces-other c s e = rw e refl

spaced-snoc : (n : ℕ) (s : Text) → replicate n space ++ space ∷ s ≡ replicate (suc n) space ++ s
spaced-snoc zero s = refl
spaced-snoc (suc n) s = ap (λ z. space ∷ z) (spaced-snoc n s)

pub skip_spaces-spaced : (n : ℕ) (s : Text) → skip_spaces (replicate n space ++ s) ≡ skip_spaces s
skip_spaces-spaced zero s = refl
skip_spaces-spaced (suc n) s = skip_spaces-more (replicate n space ++ s) ∙ skip_spaces-spaced n s

blank_lines-spaced : (n : ℕ) (line s : Text) → blank_lines line (replicate n space ++ s) ≡ blank_lines line s
blank_lines-spaced zero line s = refl
blank_lines-spaced (suc n) line s = blank_lines-spaced n line s

-- where no line end is after spaces
no_lf : (c : ℕ) (cs : Text) → (c == line_feed) ≡ true → after_line_end (skip_spaces (c ∷ cs)) ≡ None → ⊥
no_lf c cs h e = let e' : after_line_end (skip_spaces (line_feed ∷ cs)) ≡ None = rw (eqb-true c line_feed h) at e in absurd cc

past_space : (c : ℕ) (cs : Text) → (c == space) ≡ true → after_line_end (skip_spaces (c ∷ cs)) ≡ None → after_line_end (skip_spaces cs) ≡ None
past_space c cs k e = sym (ap after_line_end (skip_spaces-more cs)) ∙ rw (eqb-true c space k) at e

crlf-found : (cs : Text) → begins_with line_feed cs ≡ true → after_line_end (carriage_return ∷ cs) ≡ Some (drop 1 cs)
crlf-found cs e = rw e refl

no_crlf : (c : ℕ) (cs : Text) → (c == carriage_return && begins_with line_feed cs) ≡ true → after_line_end (skip_spaces (c ∷ cs)) ≡ None → ⊥
no_crlf c cs l e =
    let e' : after_line_end (carriage_return ∷ cs) ≡ None = rw (eqb-true c carriage_return (and-left (c == carriage_return) _ l)) at e in
    let found : after_line_end (carriage_return ∷ cs) ≡ Some (drop 1 cs) = crlf-found cs (and-right (c == carriage_return) _ l) in
    absurd cc

-- before what isn't a blank line nothing is skipped
none-skipped : (line s : Text) → after_line_end (skip_spaces s) ≡ None → blank_lines line s ≡ line
none-skipped line [] e = refl
none-skipped line (c ∷ cs) e = cases (c == line_feed)
    (λ h. absurd (no_lf c cs h e))
    (λ h. cases (c == space)
    (λ k. rw (h, k) (none-skipped line cs (past_space c cs k e)))
    (λ k. cases (c == carriage_return && begins_with line_feed cs)
    (λ l. absurd (no_crlf c cs l e))
    (λ l. rw (h, k, l) refl)))

-- blank lines are skipped
lines-skipped : {blanks : Text} → BlankLines blanks → (line rest : Text) → skip_blank_block (blanks ++ rest) ≡ skip_blank_block rest
lines-skipped no_lines line rest = refl
lines-skipped (ends_lf {more} n d) line rest =
    ap skip_blank_block (append_assoc (replicate n space) (line_feed ∷ more) rest) ∙ blank_lines-spaced n _ (line_feed ∷ (more ++ rest)) ∙ lines-skipped d line rest
lines-skipped (ends_crlf {more} n d) line rest =
    ap skip_blank_block (append_assoc (replicate n space) (carriage_return ∷ line_feed ∷ more) rest) ∙ blank_lines-spaced n _ (carriage_return ∷ line_feed ∷ (more ++ rest)) ∙ lines-skipped d line rest

pub block-skipped : (blanks text rest : Text) → BlankBlock blanks text rest → skip_blank_block text ≡ rest
block-skipped blanks text rest b = ap skip_blank_block b.split ∙ lines-skipped b.lines [] rest ∙ none-skipped rest rest b.longest

-- within a blank line: after spaces, or after the carriage return of its line end
Seen : Text → Text → Type 0
Seen line s = ((n : ℕ) × (line ≡ replicate n space ++ s)) ⊎ ((n : ℕ) × (line ≡ replicate n space ++ carriage_return ∷ s) × (begins_with line_feed s ≡ true))

Found : Text → Text → Type 0
Found line rest = (blanks : Text) × BlankBlock blanks line rest

found-lf : (n : ℕ) (line cs rest : Text) → line ≡ replicate n space ++ line_feed ∷ cs → Found cs rest → Found line rest
unfolding Found
found-lf n line cs rest e f = (
  replicate n space ++ line_feed ∷ f.0,
  record {
    split = e ∙ ap (λ z. replicate n space ++ line_feed ∷ z) f.1.split ∙ sym (append_assoc (replicate n space) (line_feed ∷ f.0) rest);
    lines = ends_lf n f.1.lines;
    longest = f.1.longest;
  },
)

found-crlf : (n : ℕ) (line cs rest : Text) → line ≡ replicate n space ++ carriage_return ∷ line_feed ∷ cs → Found cs rest → Found line rest
unfolding Found
found-crlf n line cs rest e f = (
  replicate n space ++ carriage_return ∷ line_feed ∷ f.0,
  record {
    split = e ∙ ap (λ z. replicate n space ++ carriage_return ∷ line_feed ∷ z) f.1.split ∙ sym (append_assoc (replicate n space) (carriage_return ∷ line_feed ∷ f.0) rest);
    lines = ends_crlf n f.1.lines;
    longest = f.1.longest;
  },
)

found-none : (n : ℕ) (line s : Text) → line ≡ replicate n space ++ s → after_line_end (skip_spaces s) ≡ None → Found line line
unfolding Found
found-none n line s e none = (
  [],
  record {
    split = refl;
    lines = no_lines;
    longest = ap (λ z. after_line_end (skip_spaces z)) e ∙ ap after_line_end (skip_spaces-spaced n s) ∙ none;
  },
)

none-other : (c : ℕ) (cs : Text) → (c == line_feed) ≡ false → (c == space) ≡ false → (c == carriage_return && begins_with line_feed cs) ≡ false → after_line_end (skip_spaces (c ∷ cs)) ≡ None
none-other c cs h k l = ap after_line_end (skip_spaces-other c cs k) ∙ rw (h, l) refl

found : (line s : Text) → Seen line s → Found line (blank_lines line s)
unfolding Seen
found line [] (inl seen) = found-none seen.0 line [] seen.1 refl
found line [] (inr seen) = absurd cc
found line (c ∷ cs) (inl seen) = cases (c == line_feed)
    (λ h. rw h (found-lf seen.0 line cs _ (seen.1 ∙ ap (λ z. replicate seen.0 space ++ z ∷ cs) (eqb-true c line_feed h)) (found cs cs (inl (0, refl)))))
    (λ h. cases (c == space)
    (λ k. rw (h, k) (found line cs (inl (suc seen.0, seen.1 ∙ ap (λ z. replicate seen.0 space ++ z ∷ cs) (eqb-true c space k) ∙ spaced-snoc seen.0 cs))))
    (λ k. cases (c == carriage_return && begins_with line_feed cs)
    (λ l. rw (h, k, l) (found line cs (inr (seen.0, seen.1 ∙ ap (λ z. replicate seen.0 space ++ z ∷ cs) (eqb-true c carriage_return (and-left (c == carriage_return) _ l)), and-right (c == carriage_return) _ l))))
    (λ l. rw (h, k, l) (found-none seen.0 line (c ∷ cs) seen.1 (none-other c cs h k l)))))
found line (c ∷ cs) (inr seen) =
    rw seen.2 (found-crlf seen.0 line cs _ (seen.1 ∙ ap (λ z. replicate seen.0 space ++ carriage_return ∷ z ∷ cs) (eqb-true c line_feed seen.2)) (found cs cs (inl (0, refl))))

pub block-at : (text : Text) → (blanks : Text) × BlankBlock blanks text (skip_blank_block text)
unfolding Found Seen
block-at text = found text text (inl (0, refl))

-- bytes without a line feed
abbrev Unended : Text → Type 0
Unended bytes = list_all (λ c. not (c == line_feed)) bytes ≡ true

pub not-false : (b : Bool) → not b ≡ true → b ≡ false
not-false true e = absurd cc
not-false false e = refl

false-not : (b : Bool) → b ≡ false → not b ≡ true
false-not true e = absurd cc
false-not false e = refl

pub both-and : (a b : Bool) → a ≡ true → b ≡ true → (a && b) ≡ true
both-and true b e h = h
both-and false b e h = absurd cc

unended-first : (c : ℕ) (cs : Text) → Unended (c ∷ cs) → (c == line_feed) ≡ false
unended-first c cs e = not-false _ (and-left (not (c == line_feed)) _ e)

unended-more : (c : ℕ) (cs : Text) → Unended (c ∷ cs) → Unended cs
unended-more c cs e = and-right (not (c == line_feed)) _ e

unended-cons : (c : ℕ) (cs : Text) → (c == line_feed) ≡ false → Unended cs → Unended (c ∷ cs)
unended-cons c cs e h = both-and _ _ (false-not (c == line_feed) e) h

at_lf-rest : (s : Text) → begins_with line_feed s ≡ true → drop 1 s ≡ (rest_of_line s).1
at_lf-rest [] e = refl
at_lf-rest (c ∷ cs) e = rw e refl

crlf-rest : (bytes tail : Text) → Unended bytes → begins_with line_feed (bytes ++ tail) ≡ true → drop 1 (bytes ++ tail) ≡ (rest_of_line tail).1
crlf-rest [] tail h e = at_lf-rest tail e
crlf-rest (c ∷ cs) tail h e = let none : (c == line_feed) ≡ false = unended-first c cs h in absurd cc

-- bytes without a line feed don't end a line
rest-past : (bytes tail : Text) → Unended bytes → (rest_of_line (bytes ++ tail)).1 ≡ (rest_of_line tail).1
rest-past [] tail h = refl
rest-past (c ∷ cs) tail h = cases (c == carriage_return && begins_with line_feed (cs ++ tail))
    (λ k. rw (unended-first c cs h, k) (crlf-rest cs tail (unended-more c cs h) (and-right (c == carriage_return) _ k)))
    (λ k. rw (unended-first c cs h, k) (rest-past cs tail (unended-more c cs h)))

pub line-rest : (line text rest : Text) → Line line text rest → (rest_of_line text).1 ≡ rest
line-rest line text rest l = elim l.ends [
  | inl ended ↦ ap (λ z. (rest_of_line z).1) (l.split ∙ ap (λ z. z ++ rest) ended.1 ∙ append_assoc ended.0 (line_feed ∷ []) rest) ∙ rest-past ended.0 (line_feed ∷ rest) ended.2
  | inr last ↦ ap (λ z. (rest_of_line z).1) (l.split ∙ ap (λ z. line ++ z) last.0) ∙ rest-past line [] last.1 ∙ sym last.0
]

abbrev LineFound : Text → Text → Type 0
LineFound text rest = (line : Text) × Line line text rest

line-longer : (c : ℕ) (cs rest : Text) → (c == line_feed) ≡ false → LineFound cs rest → LineFound (c ∷ cs) rest
line-longer c cs rest e f = (
  c ∷ f.0,
  record {
    split = ap (λ z. c ∷ z) f.1.split;
    ends = elim f.1.ends [
      | inl ended ↦ inl (c ∷ ended.0, ap (λ z. c ∷ z) ended.1, unended-cons c ended.0 e ended.2)
      | inr last ↦ inr (last.0, unended-cons c f.0 e last.1)
    ];
  },
)

line-ended : (cs : Text) → LineFound (line_feed ∷ cs) cs
line-ended cs = (line_feed ∷ [], record { split = refl; ends = inl ([], refl, refl) })

line-at_lf : (s : Text) → begins_with line_feed s ≡ true → LineFound s (drop 1 s)
line-at_lf [] e = absurd cc
line-at_lf (c ∷ cs) e = rw (eqb-true c line_feed e) (line-ended cs)

pub line-at : (text : Text) → (line : Text) × Line line text (rest_of_line text).1
line-at [] = ([], record { split = refl; ends = inr (refl, refl) })
line-at (c ∷ cs) = cases (c == line_feed)
    (λ h. rw h (rw (eqb-true c line_feed h) (line-ended cs)))
    (λ h. cases (c == carriage_return && begins_with line_feed cs)
    (λ k. rw (h, k) (line-longer c cs (drop 1 cs) h (line-at_lf cs (and-right (c == carriage_return) _ k))))
    (λ k. rw (h, k) (line-longer c cs (rest_of_line cs).1 h (line-at cs))))

pub blank_blocks_are_skipped : BlankBlocksAreSkipped
blank_blocks_are_skipped text rest = ((λ b. block-skipped b.0 text rest b.1), (λ e. rw (← e) (block-at text)))

pub lines_are_left : LinesAreLeft
lines_are_left text rest = ((λ l. line-rest l.0 text rest l.1), (λ e. rw (← e) (line-at text)))
