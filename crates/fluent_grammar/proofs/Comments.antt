-- Comments: reading gives what is spelled, and what is spelled is read.
use Rattle.std.proofs.Common.{◌≡◌, ℕ, zero, suc, ◌<◌, ◌≤◌, Bool, true, false, cond, ◌&&◌, List, [], ◌∷◌, ◌++◌, length, drop, Option, Some, None, is_some, refl, sym, ap, ◌∙◌, arith, inl, inr, length-drop, one-add}
use Rattle.std.specs.Prelude.{◌==◌, nat_le}
use Rattle.std.specs.List.{prefix_len}
use Rattle.std.proofs.lemmas.Bool.Decides.{nat_tests}
use Rattle.fluent_grammar.specs.Words.{Text, begins_with, begins_crlf, number_sign, space, line_feed, carriage_return, after_line_end, rest_of_line, comment_level}
use Rattle.fluent_grammar.specs.Refusal.{Refusal, Reading, got, refused}
use Rattle.fluent_grammar.specs.Tree as t
use Rattle.fluent_grammar.specs.Spelling.{SpellsCommentText, at_end, empty_line, some_line, SpellsCommentLine, SpellsCommentLines, no_more_lines, one_more_line, SpellsComment, some_lines}
use Rattle.fluent_grammar.specs.Reading.{comment_line_at, more_lines, comment_lines, comment_of, comment_at}
use Rattle.fluent_grammar.proofs.Got.{bind_got, got_node, which, begins_is, no_text, same}
use Rattle.fluent_grammar.proofs.Lengths.{line_end-lt}
use Rattle.fluent_grammar.proofs.BlankWords.{line_end_sound, line_end_complete, rest_of_line_sound, rest_of_line_complete}

-- ---- the text after a sign

-- the rest of a line that is empty is what follows the line end
line_end-rest : (s w : Text) → after_line_end s ≡ Some w → (rest_of_line s).1 ≡ w
line_end-rest [] w h = absurd cc
line_end-rest (c ∷ cs) w h =
    elim (which (begins_with line_feed (c ∷ cs)) _ _ _ h) [
      | inl p ↦ let e : cs ≡ w = cc in rw p.0 e
      | inr p ↦ elim (which (begins_crlf (c ∷ cs)) _ _ _ p.1) [
        | inl q ↦ let e : drop 1 cs ≡ w = cc in rw (p.0, q.0) e
        | inr q ↦ absurd cc
      ]
    ]

some_next : (next : Option Text) → is_some next ≡ true → (w : Text) × (next ≡ Some w)
some_next None h = absurd cc
some_next (Some w) h = (w, refl)

some_line-at : {lines : List Text} {s u rest : Text} → s ≡ space ∷ u → (rest_of_line u).0 ∷ [] ≡ lines → (rest_of_line u).1 ≡ rest → SpellsCommentText lines s rest
some_line-at {lines} {s} {u} {rest} e f g = rw (e, ← f, ← g) (some_line (rest_of_line_sound u (rest_of_line u).0 (rest_of_line u).1 refl))

pub text_sound : (s : Text) (lines : List Text) (rest : Text) → comment_line_at s ≡ got lines rest → SpellsCommentText lines s rest
unfolding comment_line_at
text_sound s lines rest h =
    elim (which (length s == 0) _ _ _ h) [
      | inl z ↦ let g = got_node z.1 in rw (← g.0, ← g.1, no_text s z.0) at_end
      | inr z ↦ elim (which (is_some (after_line_end s)) _ _ _ z.1) [
        | inl p ↦ let g = got_node p.1 in
            let n = some_next (after_line_end s) p.0 in
            let e : after_line_end s ≡ Some rest = n.1 ∙ ap Some (sym (line_end-rest s n.0 n.1) ∙ g.1) in
            rw (← g.0) (empty_line (line_end_sound s rest e))
        | inr p ↦ elim (which (begins_with space s) _ _ _ p.1) [
          | inl q ↦ let g = got_node q.1 in some_line-at (begins_is space s q.0) g.0 g.1
          | inr q ↦ absurd cc
        ]
      ]
    ]

line_end-begun : (s w : Text) → after_line_end s ≡ Some w → (length s == 0) ≡ false
line_end-begun [] w h = absurd cc
line_end-begun (c ∷ cs) w h = grind arith

pub text_complete : {lines : List Text} {s rest : Text} → SpellsCommentText lines s rest → comment_line_at s ≡ got lines rest
unfolding comment_line_at
text_complete at_end = refl
text_complete (empty_line {s} {rest} d) =
    let h : after_line_end s ≡ Some rest = line_end_complete d in
    let e : (rest_of_line s).1 ≡ rest = line_end-rest s rest h in
    rw (line_end-begun s rest h, h) (ap (λ u. got ([] ∷ []) u) e)
text_complete (some_line {line} {s} {rest} d) = let e : (length (space ∷ s) == 0) ≡ false = grind arith in rw (e, rest_of_line_complete d) refl

shorter-chosen : (b : Bool) (x y : Text × Text) (n : ℕ) → length x.1 ≤ n → length y.1 ≤ n → length (cond b x y).1 ≤ n
shorter-chosen true x y n h k = h
shorter-chosen false x y n h k = k

rest_of_line-le : (s : Text) → length (rest_of_line s).1 ≤ length s
rest_of_line-le [] = omega arith
rest_of_line-le (c ∷ cs) =
    shorter-chosen (c == line_feed) _ _ (length (c ∷ cs)) (omega arith)
    (shorter-chosen (c == carriage_return && begins_with line_feed cs) _ _ (length (c ∷ cs)) (omega (arith, length-drop 1 cs)) (omega (arith, rest_of_line-le cs)))

text-no_longer : {lines : List Text} {s rest : Text} → SpellsCommentText lines s rest → length rest ≤ length s
text-no_longer at_end = omega arith
text-no_longer (empty_line {s} {rest} d) = omega (arith, line_end-lt s rest (line_end_complete d))
text-no_longer (some_line {line} {s} {rest} d) =
    let n : length rest ≤ length s = rw (rest_of_line_complete d) at (rest_of_line-le s) in
    omega (arith, n)

-- ---- lines of a level

level_of_none : comment_level [] ≡ 0
level_of_none = refl

pub line-shorter : {k : ℕ} {lines : List Text} {s rest : Text} → SpellsCommentLine (suc k) lines s rest → length rest < length s
line-shorter {k} {lines} {s = []} {rest} d = let e : 0 ≡ suc k = d.sign in absurd cc
line-shorter {k} {lines} {s = c ∷ cs} {rest} d = omega (arith, text-no_longer d.content, length-drop (suc k) (c ∷ cs))

pub line_sound : (level : ℕ) (s : Text) (lines : List Text) (rest : Text) → (comment_level s == level) ≡ true → comment_line_at (drop level s) ≡ got lines rest →
    SpellsCommentLine level lines s rest
line_sound level s lines rest h e = record { sign = same (comment_level s) level h; content = text_sound _ _ _ e }

itself : (n : ℕ) → (n == n) ≡ true
itself n = grind arith

sign_complete : {level : ℕ} {lines : List Text} {s rest : Text} → SpellsCommentLine level lines s rest → (comment_level s == level) ≡ true
sign_complete {level} d = rw d.sign (itself level)

none-of_level : (level : ℕ) (s : Text) → (comment_level s == level) ≡ false → (lines : List Text) (rest : Text) → SpellsCommentLine level lines s rest → ⊥
none-of_level level s h lines rest d = let k : true ≡ false = sym (sign_complete d) ∙ h in cc

refused-line : (level : ℕ) (s : Text) (fault : Refusal) → comment_line_at (drop level s) ≡ refused fault → (lines : List Text) (rest : Text) → SpellsCommentLine level lines s rest → ⊥
refused-line level s fault h lines rest d = let k : got lines rest ≡ refused fault = sym (text_complete d.content) ∙ h in cc

abbrev LinesSound : (Text → List Text × Text) → ℕ → ℕ → Type 0
LinesSound left level n = (s : Text) → length s ≤ n → SpellsCommentLines level (left s).0 s (left s).1

more_sound : (left : Text → List Text × Text) (k n : ℕ) (s : Text) (x : Reading (List Text)) → comment_line_at (drop (suc k) s) ≡ x → length s ≤ suc n →
    (comment_level s == suc k) ≡ true → LinesSound left (suc k) n → SpellsCommentLines (suc k) (more_lines left s x).0 s (more_lines left s x).1
more_sound left k n s (refused fault) e le h more = no_more_lines (refused-line (suc k) s fault e)
more_sound left k n s (got line rest) e le h more =
    let here : SpellsCommentLine (suc k) line s rest = line_sound (suc k) s line rest h e in
    one_more_line here (more rest (omega (arith, line-shorter here)))

chosen_sound : (left : Text → List Text × Text) (k n : ℕ) (s : Text) (b : Bool) → (comment_level s == suc k) ≡ b → length s ≤ suc n → LinesSound left (suc k) n →
    SpellsCommentLines (suc k) (cond b (more_lines left s (comment_line_at (drop (suc k) s))) ([], s)).0 s (cond b (more_lines left s (comment_line_at (drop (suc k) s))) ([], s)).1
chosen_sound left k n s true h le more = more_sound left k n s (comment_line_at (drop (suc k) s)) refl le h more
chosen_sound left k n s false h le more = no_more_lines (none-of_level (suc k) s h)

pub lines_sound : (n k : ℕ) → LinesSound (comment_lines n (suc k)) (suc k) n
unfolding comment_lines
lines_sound zero k [] le = no_more_lines (none-of_level (suc k) [] (grind arith))
lines_sound zero k (c ∷ cs) le = absurd (omega arith)
lines_sound (suc n) k s le = chosen_sound (comment_lines n (suc k)) k n s (comment_level s == suc k) refl le (lines_sound n k)

no_more_chosen : (left : Text → List Text × Text) (level : ℕ) (s : Text) (b : Bool) (x : Reading (List Text)) → (comment_level s == level) ≡ b → comment_line_at (drop level s) ≡ x →
    ((lines : List Text) (rest : Text) → SpellsCommentLine level lines s rest → ⊥) → cond b (more_lines left s x) ([], s) ≡ ([], s)
no_more_chosen left level s false x h e none = refl
no_more_chosen left level s true (refused fault) h e none = refl
no_more_chosen left level s true (got lines rest) h e none = absurd (none lines rest (line_sound level s lines rest h e))

none_complete : (n level : ℕ) (s : Text) → ((lines : List Text) (rest : Text) → SpellsCommentLine level lines s rest → ⊥) → comment_lines n level s ≡ ([], s)
unfolding comment_lines
none_complete zero level s none = refl
none_complete (suc n) level s none = no_more_chosen (comment_lines n level) level s _ _ refl refl none

one_complete : (n level : ℕ) (s u : Text) (line others : List Text) (rest : Text) → SpellsCommentLine level line s u → comment_lines n level u ≡ (others, rest) →
    comment_lines (suc n) level s ≡ (line ++ others, rest)
unfolding comment_lines
one_complete n level s u line others rest d h = rw (sign_complete d, text_complete d.content, h) refl

pub lines_complete : {level : ℕ} {others : List Text} {s rest : Text} → SpellsCommentLines level others s rest → (n k : ℕ) → level ≡ suc k → length s ≤ n → comment_lines n level s ≡ (others, rest)
lines_complete (no_more_lines {level} {s} none) n k e le = none_complete n level s none
lines_complete (one_more_line {level} {s} {u} {rest} {line} {others} d more) zero k e le =
    let here : SpellsCommentLine (suc k) line s u = rw e at d in absurd (omega (arith, line-shorter here))
lines_complete (one_more_line {level} {s} {u} {rest} {line} {others} d more) (suc n) k e le =
    let here : SpellsCommentLine (suc k) line s u = rw e at d in
    one_complete n level s u line others rest d (lines_complete more n k e (omega (arith, line-shorter here)))

-- ---- whole comments

capped : (n : ℕ) (b : Bool) → nat_le (suc n) 3 ≡ b → (k : ℕ) × (cond b (suc n) 3 ≡ suc k) × (suc k ≤ 3)
capped n true h = (n, refl, grind (arith, nat_tests))
capped n false h = (2, refl, omega arith)

pub level-up_to_three : (s : Text) → begins_with number_sign s ≡ true → (k : ℕ) × (comment_level s ≡ suc k) × (suc k ≤ 3)
level-up_to_three [] h = absurd cc
level-up_to_three (c ∷ cs) h = rw (h, one-add) (capped (prefix_len (λ d. d == number_sign) cs) _ refl)

level-sign : (s : Text) (k : ℕ) → comment_level s ≡ suc k → begins_with number_sign s ≡ true
level-sign [] k h = let e : 0 ≡ suc k = h in absurd cc
level-sign (c ∷ cs) k h = sign-chosen (c == number_sign) refl
  where
    sign-chosen : (b : Bool) → (c == number_sign) ≡ b → (c == number_sign) ≡ true
    sign-chosen true e = e
    sign-chosen false e = let z : 0 ≡ suc k = rw e at h in absurd cc

pub comment_sound : (s : Text) (k : ℕ) (e : t.Entry) (rest : Text) → comment_level s ≡ suc k → comment_at s ≡ got e rest →
    (lines : List Text) × SpellsComment (suc k) lines s rest × (comment_of (suc k) lines ≡ e)
unfolding comment_at
comment_sound s k e rest level h =
    let first = bind_got _ _ _ _ (rw level at h) in
    let g = got_node first.3 in
    let line : SpellsCommentLine (suc k) first.0 s first.1 = record { sign = level; content = text_sound _ _ _ first.2 } in
    let others = lines_sound (length s) k first.1 (omega (arith, line-shorter line)) in
    let more : SpellsCommentLines (suc k) (comment_lines (length s) (suc k) first.1).0 first.1 rest = rw g.1 at others in
    (first.0 ++ (comment_lines (length s) (suc k) first.1).0, some_lines line more, g.0)

pub comment_complete : {level : ℕ} {lines : List Text} {s rest : Text} → SpellsComment level lines s rest → (k : ℕ) → level ≡ suc k →
    (begins_with number_sign s ≡ true) × (comment_at s ≡ got (comment_of level lines) rest)
unfolding comment_at
comment_complete (some_lines {level} {s} {u} {rest} {line} {others} d more) k e =
    let here : SpellsCommentLine (suc k) line s u = rw e at d in
    let sign : comment_level s ≡ level = d.sign in
    (level-sign s k here.sign, rw (sign, text_complete d.content, lines_complete more (length s) k e (omega (arith, line-shorter here))) refl)
