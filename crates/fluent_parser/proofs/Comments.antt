-- The steps of reading a comment.
use Rattle.std.proofs.Common.{◌≡◌, ℕ, zero, suc, ◌+◌, ◌<◌, ◌≤◌, Bool, true, false, cond, ◌&&◌, ◌||◌, List, [], ◌∷◌, ◌++◌, length, take, drop, refl, sym, ap, ◌∙◌, arith, subst, Some, None, append_assoc}
use Rattle.std.specs.Prelude.{◌==◌, is_some, nat_le, unwrap_or}
use Rattle.std.specs.List.{prefix_len}
use Rattle.std.proofs.lemmas.Bool.Decides.{nat_tests}
use Rattle.fluent_grammar.specs.Words.{Text, line_feed, carriage_return, space, number_sign, begins_with, after_line_end, rest_of_line, comment_level}
use Rattle.fluent_grammar.specs.Refusal.{Reading, got, refused, refuse, mapped, ◌>>=◌}
use Rattle.fluent_grammar.specs.Refusal as r
use Rattle.fluent_grammar.specs.Reading.{comment_line_at, comment_lines, more_lines, comment_of, comment_at}
use Rattle.fluent_grammar.proofs.Within.{Fair, end-same, end-le, end-drop, comment_line-fair}
use Rattle.fluent_grammar.proofs.Repeated.{comments_need_no_more_steps}
use Rattle.fluent_tokens.specs.Counted.{Cuts, IsLine, is_comment_line}
use Rattle.fluent_parser.specs.Entries.{lines_with, lines_left, comment_content_by}
use Rattle.fluent_parser.specs.Reads.{Refuses, Fails}
use Rattle.fluent_parser.specs.declared.fault.Fault.{Fault}
use Rattle.fluent_parser.specs.declared.fault.Fault.TheVariants as fault
use Rattle.fluent_parser.proofs.Failing.{fails_bind}
use Rattle.fluent_parsed.specs.declared.errors.ErrorKind.{ErrorKind}
use Rattle.fluent_tokens.proofs.Scanned.{cut_level, test_of}

-- a line that doesn't end is the text
stops : (p q : Bool) (x y b n : Text) (c : ℕ) (a : Text) → [] ≡ (cond {A = Text × Text} p ([], x) (cond {A = Text × Text} q ([], y) (c ∷ a, b))).0 → unwrap_or (cond p (Some x) (cond q (Some y) None)) [] ≡ unwrap_or (cond p (Some x) (cond q (Some y) None)) n
stops true q x y b n c a e = refl
stops false true x y b n c a e = refl
stops false false x y b n c a e = absurd cc

goes_on : (p q : Bool) (x y b : Text) (c : ℕ) (a k : Text) → c ∷ k ≡ (cond {A = Text × Text} p ([], x) (cond {A = Text × Text} q ([], y) (c ∷ a, b))).0 → k ≡ a
goes_on true q x y b c a k e = absurd cc
goes_on false true x y b c a k e = absurd cc
goes_on false false x y b c a k e = cc

pub line_ends : (s : Text) (n : ℕ) → take n s ≡ (rest_of_line s).0 → unwrap_or (after_line_end (drop n s)) [] ≡ unwrap_or (after_line_end (drop n s)) (drop n s)
line_ends [] zero e = refl
line_ends [] (suc n) e = refl
line_ends (c ∷ cs) zero e = stops (c == line_feed) (c == carriage_return && begins_with line_feed cs) cs (drop 1 cs) (rest_of_line cs).1 (c ∷ cs) c (rest_of_line cs).0 e
line_ends (c ∷ cs) (suc n) e = line_ends cs n (goes_on (c == line_feed) (c == carriage_return && begins_with line_feed cs) cs (drop 1 cs) (rest_of_line cs).1 c (rest_of_line cs).0 (take n cs) e)

-- a line end at the front is an empty line
ended : (p q : Bool) (x y b : Text) (c : ℕ) (a : Text) → is_some (cond p (Some x) (cond q (Some y) None)) ≡ true → (cond {A = Text × Text} p ([], x) (cond {A = Text × Text} q ([], y) (c ∷ a, b))).0 ≡ []
ended true q x y b c a e = refl
ended false true x y b c a e = refl
ended false false x y b c a e = absurd cc

empty_line : (s : Text) → is_some (after_line_end s) ≡ true → (rest_of_line s).0 ≡ []
empty_line [] e = absurd cc
empty_line (c ∷ cs) e = ended (c == line_feed) (c == carriage_return && begins_with line_feed cs) cs (drop 1 cs) (rest_of_line cs).1 c (rest_of_line cs).0 e

ended_by : (p q : Bool) (x y : Text) → is_some (cond p (Some x) (cond q (Some y) None)) ≡ true → (p || q) ≡ true
ended_by true q x y e = refl
ended_by false true x y e = refl
ended_by false false x y e = absurd cc

not_space : (c : ℕ) (t : Bool) → (c == line_feed || (c == carriage_return && t)) ≡ true → (c == space) ≡ false
not_space c t e = grind (arith, nat_tests)

space_ends_no_line : (s : Text) → is_some (after_line_end s) ≡ true → begins_with space s ≡ false
space_ends_no_line [] e = refl
space_ends_no_line (c ∷ cs) e = not_space c (begins_with line_feed cs) (ended_by (c == line_feed) (c == carriage_return && begins_with line_feed cs) cs (drop 1 cs) e)

comment_line_by : (z b p : Bool) (s a rest : Text) → z ≡ false → ((z || p) || b) ≡ true → (b ≡ true → p ≡ false) → (b ≡ true → (rest_of_line s).0 ≡ []) → rest_of_line (cond p (drop 1 s) s) ≡ (a, rest)
    → cond z (got [] []) (cond b (got ([] ∷ []) (rest_of_line s).1) (cond p (got ((rest_of_line (drop 1 s)).0 ∷ []) (rest_of_line (drop 1 s)).1) (refuse (r.expected_token space) s))) ≡ got (a ∷ []) rest
comment_line_by true b p s a rest n h f g e = absurd cc
comment_line_by false true true s a rest n h f g e = let x = f refl in absurd cc
comment_line_by false true false s a rest n h f g e =
    let x : [] ≡ a = sym (g refl) ∙ ap (λ (w : Text × Text). w.0) e in
    ap (λ (w : Text × Text). got ([] ∷ []) w.1) e ∙ ap (λ (w : Text). got (w ∷ []) rest) x
comment_line_by false false true s a rest n h f g e = ap (λ (w : Text × Text). got (w.0 ∷ []) w.1) e
comment_line_by false false false s a rest n h f g e = absurd cc

-- a line after its sign, where one stands
pub comment_line_is : (s u : Text) (n : ℕ) → (length s == 0) ≡ false → is_comment_line s ≡ true → u ≡ cond (begins_with space s) (drop 1 s) s → IsLine u n
    → comment_line_at s ≡ got (take n u ∷ []) (unwrap_or (after_line_end (drop n u)) (drop n u))
unfolding comment_line_at
comment_line_is s u n z h e line =
    let first : take n u ≡ (rest_of_line u).0 = sym (ap (λ (w : Text × Text). w.0) line) in
    let all : rest_of_line u ≡ (take n u, unwrap_or (after_line_end (drop n u)) (drop n u)) = line ∙ ap (λ (w : Text). (take n u, w)) (line_ends u n first) in
    comment_line_by (length s == 0) (is_some (after_line_end s)) (begins_with space s) s (take n u) _ z h (space_ends_no_line s) (empty_line s) (ap rest_of_line (sym e) ∙ all)

no_line : {A : Type 0} (z b p : Bool) (x y w v : A) → ((z || p) || b) ≡ false → cond z x (cond b y (cond p w v)) ≡ v
no_line true b p x y w v h = absurd cc
no_line false true true x y w v h = absurd cc
no_line false true false x y w v h = absurd cc
no_line false false true x y w v h = absurd cc
no_line false false false x y w v h = refl

pub comment_line_refused : (s : Text) → is_comment_line s ≡ false → comment_line_at s ≡ refuse (r.expected_token space) s
unfolding comment_line_at
comment_line_refused s h = no_line (length s == 0) (is_some (after_line_end s)) (begins_with space s) _ _ _ _ h

some_line : (z b p : Bool) (a a' a'' : List Text) (u u' u'' : Text) (x : Reading (List Text)) → ((z || p) || b) ≡ true → (fault : r.Refusal) → cond z (got a u) (cond b (got a' u') (cond p (got a'' u'') x)) ≡ refused fault → ⊥
some_line true b p a a' a'' u u' u'' x h fault e = absurd cc
some_line false true p a a' a'' u u' u'' x h fault e = absurd cc
some_line false false true a a' a'' u u' u'' x h fault e = absurd cc
some_line false false false a a' a'' u u' u'' x h fault e = absurd cc

not_refused_by : (x : Reading (List Text)) (kind : ErrorKind) (rest : Text) → ((fault : r.Refusal) → x ≡ refused fault → ⊥) → Refuses kind rest x → ⊥
not_refused_by (got a u) kind rest f h = h
not_refused_by (refused fault) kind rest f h = f fault refl

-- a line that is there isn't refused
pub comment_line_stands : (s : Text) (old : List Text) (kind : ErrorKind) (rest : Text) → is_comment_line s ≡ true → Refuses kind rest (lines_with old (comment_line_at s)) → ⊥
unfolding comment_line_at
comment_line_stands s old kind rest h f = not_refused_by (comment_line_at s) kind rest (some_line (length s == 0) (is_some (after_line_end s)) (begins_with space s) [] ([] ∷ []) ((rest_of_line (drop 1 s)).0 ∷ []) [] (rest_of_line s).1 (rest_of_line (drop 1 s)).1 (refuse (r.expected_token space) s) h) (unmapped (comment_line_at s) f)
  where
    unmapped : (x : Reading (List Text)) → Refuses kind rest (lines_with old x) → Refuses kind rest x
    unmapped (got a u) g = g
    unmapped (refused fault) g = g

-- the line that was put after others
pub line_put : (old new : List Text) (rest : Text) (x : Reading (List Text)) → lines_with old x ≡ got new rest → (line : List Text) × (x ≡ got line rest) × (new ≡ old ++ line)
line_put old new rest (got a u) e = let f : u ≡ rest = cc in (a, ap (got a) f, cc)
line_put old new rest (refused fault) e = absurd cc

equal : (a b : ℕ) → a ≡ b → (a == b) ≡ true
equal a b h = grind (arith, nat_tests)

lines_step : (level : ℕ) (s : Text) (line : List Text) (rest : Text) → comment_level s ≡ level → length rest < length s → comment_line_at (drop level s) ≡ got line rest
    → lines_left level s ≡ (line ++ (lines_left level rest).0, (lines_left level rest).1)
unfolding lines_left comment_lines
lines_step level [] line rest e l read = absurd (omega arith)
lines_step level (c ∷ cs) line rest e l read =
    ap (λ (b : Bool). cond b (more_lines (comment_lines (length cs) level) (c ∷ cs) (comment_line_at (drop level (c ∷ cs)))) ([], c ∷ cs)) (equal _ _ e)
    ∙ ap (more_lines (comment_lines (length cs) level) (c ∷ cs)) read
    ∙ ap (λ (o : List Text × Text). (line ++ o.0, o.1)) (comments_need_no_more_steps (length cs) (length rest) level rest (omega arith) (omega arith))

lines_stop_by : (b q : Bool) (left : Text → List Text × Text) (s u : Text) → (b && q) ≡ false → (q ≡ false → comment_line_at u ≡ refuse (r.expected_token space) u) → cond b (more_lines left s (comment_line_at u)) ([], s) ≡ ([], s)
lines_stop_by true true left s u h f = absurd cc
lines_stop_by true false left s u h f = ap (more_lines left s) (f refl)
lines_stop_by false q left s u h f = refl

lines_stop : (level : ℕ) (s : Text) → (comment_level s == level && is_comment_line (drop level s)) ≡ false → lines_left level s ≡ ([], s)
unfolding lines_left comment_lines
lines_stop level [] h = refl
lines_stop level (c ∷ cs) h = lines_stop_by (comment_level (c ∷ cs) == level) (is_comment_line (drop level (c ∷ cs))) (comment_lines (length cs) level) (c ∷ cs) (drop level (c ∷ cs)) h (comment_line_refused (drop level (c ∷ cs)))

-- the first line
pub content_begins : (level : ℕ) (s : Text) (old new : List Text) (rest : Text) → old ≡ [] → lines_with old (comment_line_at (drop level s)) ≡ got new rest
    → comment_content_by level s ≡ got (new ++ (lines_left level rest).0) (lines_left level rest).1
unfolding comment_content_by
content_begins level s old new rest z e =
    let p = line_put old new rest (comment_line_at (drop level s)) e in
    ap (λ (x : Reading (List Text)). x >>= (λ first. got (first.0 ++ (lines_left level first.1).0) (lines_left level first.1).1)) p.1
    ∙ ap (λ (l : List Text). got (l ++ (lines_left level rest).0) (lines_left level rest).1) (sym (p.2 ∙ ap (λ (l : List Text). l ++ p.0) z))

-- one more line
pub content_goes_on : (level : ℕ) (s u : Text) (old new : List Text) (rest : Text) → comment_level u ≡ level → length rest < length u
    → lines_with old (comment_line_at (drop level u)) ≡ got new rest
    → comment_content_by level s ≡ got (old ++ (lines_left level u).0) (lines_left level u).1
    → comment_content_by level s ≡ got (new ++ (lines_left level rest).0) (lines_left level rest).1
content_goes_on level s u old new rest e l h before =
    let p = line_put old new rest (comment_line_at (drop level u)) h in
    before ∙ ap (λ (o : List Text × Text). got (old ++ o.0) o.1) (lines_step level u p.0 rest e l p.1)
    ∙ ap (λ (l : List Text). got l (lines_left level rest).1) (sym (append_assoc old p.0 (lines_left level rest).0))
    ∙ ap (λ (l : List Text). got (l ++ (lines_left level rest).0) (lines_left level rest).1) (sym p.2)

-- no more lines
pub content_ends : (level : ℕ) (s u : Text) (old : List Text) → (comment_level u == level && is_comment_line (drop level u)) ≡ false
    → comment_content_by level s ≡ got (old ++ (lines_left level u).0) (lines_left level u).1
    → comment_content_by level s ≡ got old u
content_ends level s u old h before =
    before ∙ ap (λ (o : List Text × Text). got (old ++ o.0) o.1) (lines_stop level u h) ∙ ap (λ (l : List Text). got l u) (nothing_more old)
  where
    nothing_more : (l : List Text) → l ++ [] ≡ l
    nothing_more [] = refl
    nothing_more (x ∷ xs) = ap (λ (ys : List Text). x ∷ ys) (nothing_more xs)

comment_by : (level : ℕ) (s : Text) (x : Reading (List Text)) → Fair x s
    → (x >>= (λ first. let others = comment_lines (length s) level first.1 in got (comment_of level (first.0 ++ others.0)) others.1))
    ≡ ((x >>= (λ first. got (first.0 ++ (lines_left level first.1).0) (lines_left level first.1).1)) >>= (λ lines. got (comment_of level lines.0) lines.1))
unfolding lines_left
comment_by level s (got first rest) h =
    ap (λ (o : List Text × Text). got (comment_of level (first ++ o.0)) o.1) (comments_need_no_more_steps (length s) (length rest) level rest (end-le h.parts) (omega arith))
comment_by level s (refused fault) h = refl

-- a comment is its lines
pub comment_is : (s : Text) → comment_at s ≡ (comment_content_by (comment_level s) s >>= (λ lines. got (comment_of (comment_level s) lines.0) lines.1))
unfolding comment_at comment_content_by
comment_is s = comment_by (comment_level s) s (comment_line_at (drop (comment_level s) s)) (comment_line-fair (end-drop (comment_level s) (end-same s)))

level_le : (n : ℕ) → cond (nat_le n 3) n 3 ≤ n
level_le n = grind (arith, nat_tests)

pub level_cuts : (s : Text) (level : ℕ) → level ≡ comment_level s → Cuts s level
level_cuts s level e = cut_level s level (rw e (level_le (prefix_len (λ c. c == number_sign) s)))

level_some_by : (n : ℕ) → 0 < n → 0 < cond (nat_le n 3) n 3
level_some_by n h = grind (arith, nat_tests)

sign_some : (b : Bool) (n : ℕ) → b ≡ true → 0 < cond b (1 + n) 0
sign_some true n e = omega arith
sign_some false n e = absurd cc

pub level_some : (s : Text) (level : ℕ) → begins_with number_sign s ≡ true → level ≡ comment_level s → 0 < level
level_some [] level h e = absurd cc
level_some (c ∷ cs) level h e = rw e (level_some_by _ (sign_some (c == number_sign) (prefix_len (λ c. c == number_sign) cs) h))

none_by : (b : Bool) (s : Text) (x : Reading (List Text)) → b ≡ true → cond b (got [] []) x ≡ got [] []
none_by true s x h = refl
none_by false s x h = absurd cc

pub no_line_left : (s : Text) → (length s == 0) ≡ true → comment_line_at s ≡ got [] s
unfolding comment_line_at
no_line_left [] h = refl
no_line_left (c ∷ cs) h = absurd (grind (arith, nat_tests))

fails_unmapped : {A B : Type 0} (e : Fault) (rest : Text) (f : A → B) (x : Reading A) → Fails e rest (mapped f x) → Fails e rest x
fails_unmapped fault.Memory rest f x h = tt
fails_unmapped fault.TooDeep rest f x h = tt
fails_unmapped (fault.Refused kind) rest f (got a u) h = absurd h
fails_unmapped (fault.Refused kind) rest f (refused x) h = h

-- the first line has to be there
pub content_fails : (e : Fault) (rest : Text) (level : ℕ) (s : Text) (old : List Text) → Fails e rest (lines_with old (comment_line_at (drop level s))) → Fails e rest (comment_content_by level s)
unfolding comment_content_by
content_fails e rest level s old h = fails_bind e rest (comment_line_at (drop level s)) _ (fails_unmapped e rest (λ line. old ++ line) (comment_line_at (drop level s)) h)

-- a line that is there fails for memory alone
pub content_stands : (e : Fault) (rest : Text) (level : ℕ) (s u : Text) (old : List Text) → is_comment_line (drop level u) ≡ true → Fails e rest (lines_with old (comment_line_at (drop level u))) → Fails e rest (comment_content_by level s)
content_stands fault.Memory rest level s u old t h = tt
content_stands fault.TooDeep rest level s u old t h = tt
content_stands (fault.Refused kind) rest level s u old t h = absurd (comment_line_stands (drop level u) old kind rest t h)

-- the comment fails where its lines do
pub comment_fails : (e : Fault) (rest s : Text) (level : ℕ) → level ≡ comment_level s → Fails e rest (comment_content_by level s) → Fails e rest (comment_at s)
comment_fails e rest s level same h =
    subst (Fails e rest) (sym (comment_is s)) (fails_bind e rest (comment_content_by (comment_level s) s) _ (subst (λ (n : ℕ). Fails e rest (comment_content_by n s)) same h))

pub comment_read : (s : Text) (level : ℕ) (lines : List Text) (rest : Text) → level ≡ comment_level s → comment_content_by level s ≡ got lines rest → comment_at s ≡ got (comment_of level lines) rest
comment_read s level lines rest e h =
    comment_is s ∙ ap (λ (n : ℕ). comment_content_by n s >>= (λ lines. got (comment_of n lines.0) lines.1)) (sym e)
    ∙ ap (λ (x : Reading (List Text)). x >>= (λ lines. got (comment_of level lines.0) lines.1)) h

pub line_test : (level : ℕ) (u : Text) → (comment_level u == level && is_comment_line (drop level u)) ≡ true → (comment_level u ≡ level) × (is_comment_line (drop level u) ≡ true)
line_test level u h = both (comment_level u == level) (is_comment_line (drop level u)) h (test_of (comment_level u) level)
  where
    both : {A : Type 0} (p q : Bool) → (p && q) ≡ true → (p ≡ true → A) → A × (q ≡ true)
    both true q e f = (f refl, e)
    both false q e f = absurd cc
