-- Comments and blank lines are passed over on the way to the next message or term.
use Rattle.std.proofs.Common.{◌≡◌, ◌∙◌, ℕ, zero, suc, ◌+◌, ◌≤◌, Bool, true, false, cond, ◌&&◌, ◌||◌, List, [], ◌∷◌, ◌++◌, length, drop, refl, sym, ap, arith, eqb-true}
use Rattle.std.specs.Prelude.{◌==◌, is_some, nat_le}
use Rattle.std.specs.List.{prefix_len}
use Rattle.fluent_grammar.specs.Words.{Text, line_feed, carriage_return, space, number_sign, begins_with, blank_lines, skip_blank_block, rest_of_line, comment_level, after_line_end}
use Rattle.fluent_grammar.specs.Refusal.{Kind, Reading, got, refused, refuse, ◌>>=◌}
use Rattle.fluent_grammar.specs.Tree as t
use Rattle.fluent_grammar.specs.Reading as g
use Rattle.fluent_grammar.specs.Reading.{comment_at, comment_line_at, comment_lines, more_lines}
use Rattle.fluent_grammar.proofs.Cases.{cases, and-left, and-right}
use Rattle.lint_entries.specs.Starts.{starts_entry, next_start}

start-past : (b : Bool) (c : ℕ) (cs : Text) → starts_entry c ≡ false → next_start b (c ∷ cs) ≡ next_start (c == line_feed) cs
start-past true c cs e = rw e refl
start-past false c cs e = refl

-- no message or term begins with a byte of a blank line
line_feed-starts-none : (c : ℕ) → (c == line_feed) ≡ true → starts_entry c ≡ false
line_feed-starts-none c e = rw (eqb-true c line_feed e) refl

space-starts-none : (c : ℕ) → (c == space) ≡ true → starts_entry c ≡ false
space-starts-none c e = rw (eqb-true c space e) refl

return-starts-none : (c : ℕ) → (c == carriage_return) ≡ true → starts_entry c ≡ false
return-starts-none c e = rw (eqb-true c carriage_return e) refl

spaced-starts-none : (c : ℕ) (b : Bool) → (c == space || (c == carriage_return && b)) ≡ true → starts_entry c ≡ false
spaced-starts-none c b e = cases (c == space) (λ h. space-starts-none c h) (λ h. return-starts-none c (and-left (c == carriage_return) b (rw h at e)))

-- what is looked for after a blank block is what is looked for before it
blank_lines-start : (b : Bool) (line s : Text) → next_start true line ≡ next_start b s → next_start true line ≡ next_start true (blank_lines line s)
blank_lines-start b line [] e = refl
blank_lines-start b line (c ∷ cs) e = cases (c == line_feed)
    (λ h. rw h (e ∙ start-past b c cs (line_feed-starts-none c h) ∙ ap (λ z. next_start z cs) h ∙ blank_lines-start true cs cs refl))
    (λ h. cases (c == space || (c == carriage_return && begins_with line_feed cs))
    (λ k. rw (h, k) (blank_lines-start false line cs (e ∙ start-past b c cs (spaced-starts-none c _ k) ∙ ap (λ z. next_start z cs) h)))
    (λ k. rw (h, k) refl))

pub blank_block-start : (s : Text) → next_start true s ≡ next_start true (skip_blank_block s)
blank_block-start s = blank_lines-start true s s refl

line_feed-start : (s : Text) → begins_with line_feed s ≡ true → next_start false s ≡ next_start true (drop 1 s)
line_feed-start [] e = absurd cc
line_feed-start (c ∷ cs) e = rw e refl

-- after the start of a line the next line is looked at
line-start : (s : Text) → next_start false s ≡ next_start true (rest_of_line s).1
line-start [] = refl
line-start (c ∷ cs) = cases (c == line_feed)
    (λ h. rw h refl)
    (λ h. cases (c == carriage_return && begins_with line_feed cs)
    (λ k. rw (h, k) (line_feed-start cs (and-right (c == carriage_return) _ k)))
    (λ k. rw (h, k) (line-start cs)))

sign-start : (s : Text) → begins_with number_sign s ≡ true → next_start true s ≡ next_start true (rest_of_line s).1
sign-start [] e = absurd cc
sign-start (c ∷ cs) e = rw (eqb-true c number_sign e) (line-start (number_sign ∷ cs))

-- signs at the front of a line don't change where it ends
signs-rest : (k : ℕ) (s : Text) → k ≤ prefix_len (λ c. c == number_sign) s → (rest_of_line s).1 ≡ (rest_of_line (drop k s)).1
signs-rest zero s h = refl
signs-rest (suc k) [] h = refl
signs-rest (suc k) (c ∷ cs) h = cases (c == number_sign)
    (λ e. rw (eqb-true c number_sign e) (signs-rest k cs (omega (arith, rw e at h))))
    (λ e. absurd (omega (arith, rw e at h)))

level-signs : (s : Text) → comment_level s ≤ prefix_len (λ c. c == number_sign) s
level-signs s = by_count (prefix_len (λ c. c == number_sign) s)
  where
    by_count : (n : ℕ) → cond (nat_le n 3) n 3 ≤ n
    by_count n = grind arith

sign-leveled : (s : Text) → begins_with number_sign s ≡ true → 1 ≤ comment_level s
sign-leveled [] e = absurd cc
sign-leveled (c ∷ cs) e = rw e (by_count (prefix_len (λ d. d == number_sign) cs))
  where
    by_count : (n : ℕ) → 1 ≤ cond (nat_le (1 + n) 3) (1 + n) 3
    by_count n = grind arith

leveled-sign : (s : Text) → 1 ≤ comment_level s → begins_with number_sign s ≡ true
leveled-sign [] h = absurd (omega arith)
leveled-sign (c ∷ cs) h = cases (c == number_sign) (λ e. e) (λ e. absurd (omega (arith, rw e at h)))

-- what is left of a line that a comment reads
abbrev LeftParts : Reading (List Text) → Text → Type 0
LeftParts (got line rest) s = rest ≡ (rest_of_line s).1
LeftParts (refused fault) s = Unit {0}

record Left (x : Reading (List Text)) (s : Text) : Type 0 where
  pub parts : LeftParts x s

left-got : (line : List Text) (rest s : Text) → rest ≡ (rest_of_line s).1 → Left (got line rest) s
left-got line rest s h = record { parts = h }

left-refuse : (kind : Kind) (s : Text) → Left (refuse kind s) s
left-refuse kind s = record { parts = tt }

left-if : (b : Bool) (x y : Reading (List Text)) (s : Text) → (b ≡ true → Left x s) → (b ≡ false → Left y s) → Left (cond b x y) s
left-if true x y s p q = p refl
left-if false x y s p q = q refl

none-rest : (s : Text) → (length s == 0) ≡ true → [] ≡ (rest_of_line s).1
none-rest [] e = refl
none-rest (c ∷ cs) e = absurd (omega (arith, eqb-true (suc (length cs)) 0 e))

space-rest : (s : Text) → begins_with space s ≡ true → (rest_of_line (drop 1 s)).1 ≡ (rest_of_line s).1
space-rest [] e = absurd cc
space-rest (c ∷ cs) e = rw (eqb-true c space e) refl

comment_line-left : (s : Text) → Left (comment_line_at s) s
unfolding comment_line_at
comment_line-left s = left-if (length s == 0) _ _ _ (λ e. left-got _ _ _ (none-rest s e)) (λ e.
    left-if (is_some (after_line_end s)) _ _ _ (λ h. left-got _ _ _ refl) (λ h.
    left-if (begins_with space s) _ _ _ (λ k. left-got _ _ _ (space-rest s k)) (λ k. left-refuse _ _)))

comment_line-start : (s : Text) (level : ℕ) (rest : Text) → 1 ≤ level → comment_level s ≡ level → rest ≡ (rest_of_line (drop level s)).1 → next_start true s ≡ next_start true rest
comment_line-start s level rest h e left =
    sign-start s (leveled-sign s (omega (arith, h, e)))
    ∙ ap (next_start true) (signs-rest level s (omega (arith, level-signs s, e)) ∙ sym left)

-- the lines of a comment are passed over
lines-start : (n level : ℕ) (s : Text) → 1 ≤ level → next_start true s ≡ next_start true (comment_lines n level s).1
unfolding comment_lines
lines-start zero level s h = refl
lines-start (suc n) level s h = cases (comment_level s == level)
    (λ e. rw e (by_line (comment_line_at (drop level s)) (comment_line-left (drop level s)).parts (eqb-true _ _ e) (λ u. lines-start n level u h)))
    (λ e. rw e refl)
  where
    by_line : (x : Reading (List Text)) → LeftParts x (drop level s) → comment_level s ≡ level →
        ((u : Text) → next_start true u ≡ next_start true (comment_lines n level u).1) →
        next_start true s ≡ next_start true (more_lines (comment_lines n level) s x).1
    by_line (refused fault) left e again = refl
    by_line (got line rest) left e again = comment_line-start s level rest h e left ∙ again rest

abbrev pub is_comment : t.Entry → Bool
is_comment (t.comment c) = true
is_comment (t.group_comment c) = true
is_comment (t.resource_comment c) = true
is_comment _ = false

comment_of-comment : (level : ℕ) (lines : List Text) → is_comment (g.comment_of level lines) ≡ true
comment_of-comment level lines = by_level (level == 1) (level == 2)
  where
    by_level : (a b : Bool) → is_comment (cond a (t.comment lines) (cond b (t.group_comment lines) (t.resource_comment lines))) ≡ true
    by_level true b = refl
    by_level false true = refl
    by_level false false = refl

-- a comment is passed over
pub comment-start : (s : Text) (e : t.Entry) (rest : Text) → begins_with number_sign s ≡ true → comment_at s ≡ got e rest → (is_comment e ≡ true) × (next_start true s ≡ next_start true rest)
unfolding comment_at
comment-start s e rest sign read =
    by_line (comment_line_at (drop (comment_level s) s)) (comment_line-left (drop (comment_level s) s)).parts read
  where
    by_line : (x : Reading (List Text)) → LeftParts x (drop (comment_level s) s) →
        (x >>= (λ first. let others = comment_lines (length s) (comment_level s) first.1 in got (g.comment_of (comment_level s) (first.0 ++ others.0)) others.1)) ≡ got e rest →
        (is_comment e ≡ true) × (next_start true s ≡ next_start true rest)
    by_line (refused fault) left h = absurd cc
    by_line (got line first) left h =
        let leveled = sign-leveled s sign in
        let same : (comment_lines (length s) (comment_level s) first).1 ≡ rest = cc in
        let lines = line ++ (comment_lines (length s) (comment_level s) first).0 in
        let is : g.comment_of (comment_level s) lines ≡ e = cc in (
          ap is_comment (sym is) ∙ comment_of-comment (comment_level s) lines,
          comment_line-start s (comment_level s) first leveled refl left ∙ lines-start (length s) (comment_level s) first leveled ∙ ap (next_start true) same,
        )
