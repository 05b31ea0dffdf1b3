-- Comments go on: their last lines take those of a comment that follows.
use Rattle.std.proofs.Common.{◌≡◌, ℕ, zero, suc, ◌+◌, ◌≤◌, true, ◌&&◌, List, [], ◌∷◌, ◌++◌, length, drop, Option, is_some, refl, sym, ap, ◌∙◌, arith, inl, inr, append_assoc, append-nil}
use Rattle.std.specs.Prelude.{◌==◌, ◌⊎◌}
use Rattle.fluent_grammar.specs.Words.{Text, line_feed, carriage_return, space, number_sign, begins_with, after_line_end, rest_of_line, comment_level}
use Rattle.fluent_grammar.specs.Refusal.{Kind, Refusal, Reading, got, refused, refuse, ◌>>=◌}
use Rattle.fluent_grammar.specs.Tree as t
use Rattle.fluent_grammar.specs.Reading as g
use Rattle.fluent_grammar.specs.Reading.{entry_at, comment_of}
use Rattle.fluent_grammar.specs.Spelling.{SpellsCommentLine, SpellsCommentLines, no_more_lines, one_more_line, SpellsComment, some_lines}
use Rattle.std.specs.List.{prefix_len}
use Rattle.fluent_grammar.proofs.Cases.{cases}
use Rattle.fluent_grammar.proofs.Got.{got_node}
use Rattle.fluent_grammar.proofs.Comments.{text_sound, text_complete, lines_sound}
use Rattle.fluent_grammar.proofs.Entries.{entry-of_sign}
use Rattle.fluent_tidy_laws.proofs.MovingComments.{level-capped, level-same, content-at}
use Rattle.fluent_tidy_laws.proofs.LineFeeds.{EndsInFeed, lf_last, lf_later, lf-begins}
use Rattle.fluent_tidy_laws.proofs.GoingOn.{before, before-some, before-end, Ends, no_end, some_before, some_end, lf-alike}

-- a comment before the text that comes: the same, or with more lines, which that text begins with
pub data CommentGoes (q : Text) (k : ℕ) (lines : List Text) (s rest : Text) : Type 0 where
  comment_same : EndsInFeed rest → SpellsComment (suc k) lines (s ++ q) (rest ++ q) → CommentGoes q k lines s rest
  comment_more : {others : List Text} {end : Text} → rest ≡ [] → SpellsComment (suc k) (lines ++ others) (s ++ q) end → SpellsCommentLines (suc k) others q end → CommentGoes q k lines s rest

-- ---- one line

abbrev After : Text → Text → Text → Type 0
After q r r' = (EndsInFeed r × (r' ≡ r ++ q)) ⊎ ((r ≡ []) × (r' ≡ q))

after-drop : {s : Text} (q : Text) → EndsInFeed s → After q (drop 1 s) (drop 1 (s ++ q))
after-drop q lf_last = inr (refl, refl)
after-drop q (lf_later c f) = inl (f, refl)

rest-goes : {s : Text} (q : Text) → EndsInFeed s → ((rest_of_line (s ++ q)).0 ≡ (rest_of_line s).0) × After q (rest_of_line s).1 (rest_of_line (s ++ q)).1
rest-goes q lf_last = (refl, inr (refl, refl))
rest-goes q (lf_later {s} c f) = cases (c == line_feed)
    (λ e. rw e (refl, inl (f, refl)))
    (λ e. cases (c == carriage_return && begins_with line_feed s)
    (λ k. rw (e, lf-begins (λ y. y == line_feed) q f, k) (refl, after-drop q f))
    (λ k. let i = rest-goes q f in rw (e, lf-begins (λ y. y == line_feed) q f, k) (ap (λ z. c ∷ z) i.0, i.1)))

data LineGoes (q : Text) : Reading (List Text) → Reading (List Text) → Type 0 where
  line_same : {l : List Text} {r : Text} → EndsInFeed r → LineGoes q (got l r) (got l (r ++ q))
  line_last : {l : List Text} → LineGoes q (got l []) (got l q)
  line_refused : {kind : Kind} {at : Text} → EndsInFeed at → LineGoes q (refuse kind at) (refuse kind (at ++ q))

got-after : {q r r' : Text} (l l' : List Text) → l' ≡ l → After q r r' → LineGoes q (got l r) (got l' r')
got-after l l' e a = elim a [
  | inl x ↦ rw (e, x.1) (line_same x.0)
  | inr x ↦ rw (e, x.0, x.1) line_last
]

space-goes : {s : Text} (q : Text) → begins_with space s ≡ true → EndsInFeed s →
    LineGoes q (got ((rest_of_line (drop 1 s)).0 ∷ []) (rest_of_line (drop 1 s)).1) (got ((rest_of_line (drop 1 (s ++ q))).0 ∷ []) (rest_of_line (drop 1 (s ++ q))).1)
space-goes q b lf_last = absurd cc
space-goes q b (lf_later c f) = let i = rest-goes q f in got-after _ _ (ap (λ z. z ∷ []) i.0) i.1

ends-some : {q : Text} {o o' : Option Text} → Ends q o o' → is_some o' ≡ is_some o
ends-some no_end = refl
ends-some (some_before h) = refl
ends-some some_end = refl

line-goes : {s : Text} (q : Text) → EndsInFeed s → LineGoes q (g.comment_line_at s) (g.comment_line_at (s ++ q))
unfolding g.comment_line_at
line-goes {s} q f =
    let z = before-some {q = q} (before f) in
    let o : is_some (after_line_end (s ++ q)) ≡ is_some (after_line_end s) = ends-some (before-end (before f)) in
    cases (is_some (after_line_end s))
    (λ e. rw (z.0, z.1, o, e) (got-after _ _ refl (rest-goes q f).1))
    (λ e. cases (begins_with space s)
    (λ b. rw (z.0, z.1, o, e, lf-begins (λ y. y == space) q f, b) (space-goes q b f))
    (λ b. rw (z.0, z.1, o, e, lf-begins (λ y. y == space) q f, b) (line_refused f)))

-- after the signs
sign-drop : {s : Text} (q : Text) (n : ℕ) → n ≤ prefix_len (λ c. c == number_sign) s → EndsInFeed s → EndsInFeed (drop n s) × (drop n (s ++ q) ≡ drop n s ++ q)
sign-drop q zero h f = (f, refl)
sign-drop q (suc n) h lf_last = absurd (omega arith)
sign-drop q (suc n) h (lf_later {s} c f) = cases (c == number_sign)
    (λ e. let k : suc n ≤ 1 + prefix_len (λ c. c == number_sign) s = rw e at h in sign-drop q n (omega arith) f)
    (λ e. let k : suc n ≤ 0 = rw e at h in absurd (omega arith))

signs-drop : {s : Text} (q : Text) → EndsInFeed s → EndsInFeed (drop (comment_level s) s) × (drop (comment_level (s ++ q)) (s ++ q) ≡ drop (comment_level s) s ++ q)
signs-drop {s} q f =
    let d = sign-drop q (comment_level s) (level-capped (prefix_len (λ c. c == number_sign) s) _ refl) f in
    (d.0, ap (λ n. drop n (s ++ q)) (level-same (lf-alike q f)) ∙ d.1)

level-drop : (level : ℕ) (s : Text) → comment_level s ≡ level → drop level s ≡ drop (comment_level s) s
level-drop level s e = ap (λ n. drop n s) (sym e)

line-at : {level : ℕ} {lines : List Text} {s rest : Text} (q : Text) → EndsInFeed s → comment_level s ≡ level → g.comment_line_at (drop (comment_level s) s ++ q) ≡ got lines rest → SpellsCommentLine level lines (s ++ q) rest
line-at {level} {lines} {s} {rest} q f sign e =
    let w : comment_level (s ++ q) ≡ level = level-same (lf-alike q f) ∙ sign in
    record {
      sign = w;
      content = content-at (level-drop level (s ++ q) w ∙ (signs-drop q f).1) (text_sound (drop (comment_level s) s ++ q) lines rest e);
    }

data LineSpelled (q : Text) (level : ℕ) (lines : List Text) (s u : Text) : Type 0 where
  spelled_same : EndsInFeed u → SpellsCommentLine level lines (s ++ q) (u ++ q) → LineSpelled q level lines s u
  spelled_last : u ≡ [] → SpellsCommentLine level lines (s ++ q) q → LineSpelled q level lines s u

spelled-by : {q : Text} {level : ℕ} {lines : List Text} {s u : Text} {x y : Reading (List Text)} → EndsInFeed s → comment_level s ≡ level → LineGoes q x y → x ≡ got lines u → g.comment_line_at (drop (comment_level s) s ++ q) ≡ y → LineSpelled q level lines s u
spelled-by {q} {lines = lines} f sign (line_same {l} {r} h) e k = let n = got_node e in spelled_same (lf-to n.1 h) (line-at q f sign (k ∙ ap (λ z. got z (r ++ q)) n.0 ∙ ap (λ z. got lines (z ++ q)) n.1))
  where
    lf-to : {s u : Text} → s ≡ u → EndsInFeed s → EndsInFeed u
    lf-to e f = rw (← e) f
spelled-by {q} f sign (line_last {l}) e k = let n = got_node e in spelled_last (sym n.1) (line-at q f sign (k ∙ ap (λ z. got z q) n.0))
spelled-by f sign (line_refused h) e k = absurd cc

line-spelled : {level : ℕ} {lines : List Text} {s u : Text} (q : Text) → SpellsCommentLine level lines s u → EndsInFeed s → LineSpelled q level lines s u
line-spelled {level} {s = s} q d f = spelled-by f d.sign (line-goes q (signs-drop q f).0) (ap g.comment_line_at (sym (level-drop level s d.sign)) ∙ text_complete d.content) refl

-- a line of the longer text is one of the text
back-by : {q : Text} {level : ℕ} {lines : List Text} {s u : Text} {x y : Reading (List Text)} → comment_level s ≡ level → LineGoes q x y → y ≡ got lines u → g.comment_line_at (drop (comment_level s) s) ≡ x → (ls : List Text) × (r : Text) × SpellsCommentLine level ls s r
back-by {level = level} {s = s} sign (line_same {l} {r} h) e k = (l, r, record { sign = sign; content = content-at (level-drop level s sign) (text_sound (drop (comment_level s) s) l r k) })
back-by {level = level} {s = s} sign (line_last {l}) e k = (l, [], record { sign = sign; content = content-at (level-drop level s sign) (text_sound (drop (comment_level s) s) l [] k) })
back-by sign (line_refused h) e k = absurd cc

line-back : {level : ℕ} {lines : List Text} {s u : Text} (q : Text) → EndsInFeed s → SpellsCommentLine level lines (s ++ q) u → (ls : List Text) × (r : Text) × SpellsCommentLine level ls s r
line-back {level} {s = s} q f d =
    let sign : comment_level s ≡ level = sym (level-same (lf-alike q f)) ∙ d.sign in
    back-by sign (line-goes q (signs-drop q f).0) (ap g.comment_line_at (sym (level-drop level (s ++ q) d.sign ∙ (signs-drop q f).1)) ∙ text_complete d.content) refl

-- ---- more lines

data LinesGo (q : Text) (k : ℕ) (lines : List Text) (s rest : Text) : Type 0 where
  lines_same : EndsInFeed rest → SpellsCommentLines (suc k) lines (s ++ q) (rest ++ q) → LinesGo q k lines s rest
  lines_more : {others : List Text} {end : Text} → rest ≡ [] → SpellsCommentLines (suc k) (lines ++ others) (s ++ q) end → SpellsCommentLines (suc k) others q end → LinesGo q k lines s rest

lines-none : {k : ℕ} {lines : List Text} {s rest : Text} → SpellsCommentLines (suc k) lines s rest → s ≡ [] → (lines ≡ []) × (rest ≡ [])
lines-none (no_more_lines f) e = (refl, e)
lines-none {k} (one_more_line d m) e = absurd (let z : 0 ≡ suc k = ap comment_level (sym e) ∙ d.sign in omega (arith, z))

lines-to : {k : ℕ} {ls ms : List Text} {s rest : Text} → ms ≡ ls → SpellsCommentLines k ls s rest → SpellsCommentLines k ms s rest
lines-to e d = rw e d

comment-to : {k : ℕ} {ls ms : List Text} {s rest : Text} → ms ≡ ls → SpellsComment k ls s rest → SpellsComment k ms s rest
comment-to e d = rw e d

without : (line others more : List Text) → others ≡ [] → (line ++ others) ++ more ≡ line ++ more
without line others more e = ap (λ z. (line ++ z) ++ more) e ∙ ap (λ z. z ++ more) (append-nil line)

lines-go : {k : ℕ} {lines : List Text} {s rest : Text} (q : Text) → SpellsCommentLines (suc k) lines s rest → EndsInFeed s → LinesGo q k lines s rest
lines-go q (no_more_lines none) f = lines_same f (no_more_lines (λ ls r d. let b = line-back q f d in none b.0 b.1 b.2))
lines-go {k} q (one_more_line {line = line} {others = others} d m) f = elim (line-spelled q d f) [
  | spelled_same h x ↦ elim (lines-go q m h) [
    | lines_same i y ↦ lines_same i (one_more_line x y)
    | lines_more {others = more} e y z ↦ lines_more e (lines-to (append_assoc line others more) (one_more_line x y)) z
  ]
  | spelled_last e x ↦ let n = lines-none m e in let y = lines_sound (length q) k q (omega arith) in lines_more n.1 (lines-to (without line others _ n.0) (one_more_line x y)) y
]

pub comment-goes : {q : Text} {k : ℕ} {lines : List Text} {s rest : Text} → SpellsComment (suc k) lines s rest → EndsInFeed s → CommentGoes q k lines s rest
comment-goes {q} {k} (some_lines {line = line} {others = others} d m) f = elim (line-spelled q d f) [
  | spelled_same h x ↦ elim (lines-go q m h) [
    | lines_same i y ↦ comment_same i (some_lines x y)
    | lines_more {others = more} e y z ↦ comment_more e (comment-to (append_assoc line others more) (some_lines x y)) z
  ]
  | spelled_last e x ↦ let n = lines-none m e in let y = lines_sound (length q) k q (omega arith) in comment_more n.1 (comment-to (without line others _ n.0) (some_lines x y)) y
]

-- ---- refusals

to_lines : Reading t.Entry → Reading (List Text)
to_lines (got e r) = got [] r
to_lines (refused fault) = refused fault

refused-line : {fault : Refusal} (x : Reading (List Text)) (f : List Text × Text → Reading t.Entry) → ((a : List Text) (r : Text) → f (a, r) ≡ refused fault → ⊥) → (x >>= f) ≡ refused fault → x ≡ refused fault
unfolding to_lines
refused-line (got a r) f n e = absurd (n a r e)
refused-line (refused y) f n e = ap to_lines e

comment-refused_by : {fault : Refusal} (s : Text) → g.comment_at s ≡ refused fault → g.comment_line_at (drop (comment_level s) s) ≡ refused fault
unfolding g.comment_at
comment-refused_by s e = refused-line (g.comment_line_at (drop (comment_level s) s)) _ (λ a r h. absurd cc) e

comment-refuses : (s u : Text) {kind : Kind} {at : Text} → drop (comment_level s) s ≡ u → g.comment_line_at u ≡ refuse kind at → g.comment_at s ≡ refuse kind at
unfolding g.comment_at
comment-refuses s u w e = rw (w, e) refl

abbrev place_of : Reading (List Text) → Text
place_of (got a rest) = rest
place_of (refused fault) = fault.at

refused-by : {q : Text} {x y : Reading (List Text)} {fault : Refusal} → LineGoes q x y → x ≡ refused fault → EndsInFeed fault.at × ((kind : Kind) × (y ≡ refuse kind (fault.at ++ q)))
refused-by (line_same h) e = absurd cc
refused-by line_last e = absurd cc
refused-by {q} (line_refused {kind} {at} h) e = at-place kind at (ap place_of e) h
  where
    at-place : {p : Text} (kind : Kind) (at : Text) → at ≡ p → EndsInFeed at → EndsInFeed p × ((kind' : Kind) × (refuse kind (at ++ q) ≡ refuse {A = List Text} kind' (p ++ q)))
    at-place kind at e h = rw (← e) (h, (kind, refl))

sign-grows : (s q : Text) → begins_with number_sign s ≡ true → begins_with number_sign (s ++ q) ≡ true
sign-grows [] q b = absurd cc
sign-grows (c ∷ cs) q b = b

pub comment-refused : {s : Text} {fault : Refusal} (q : Text) → begins_with number_sign s ≡ true → EndsInFeed s → entry_at s ≡ refused fault → EndsInFeed fault.at × ((kind : Kind) × (entry_at (s ++ q) ≡ refuse kind (fault.at ++ q)))
comment-refused {s} q b f e =
    let d = signs-drop q f in
    let x = refused-by (line-goes q d.0) (comment-refused_by s (sym (entry-of_sign s b) ∙ e)) in
    (x.0, (x.1.0, entry-of_sign (s ++ q) (sign-grows s q b) ∙ comment-refuses (s ++ q) (drop (comment_level s) s ++ q) d.1 x.1.1))
