-- A comment before a clean text is a clean text: its lines join those of a comment that follows.
use Rattle.std.proofs.Common.{◌≡◌, ℕ, zero, suc, ◌≤◌, Bool, true, false, cond, List, [], ◌∷◌, ◌++◌, length, drop, take, Some, None, refl, sym, ap, ◌∙◌, arith, take-append-drop}
use Rattle.std.specs.Prelude.{◌==◌, ◌≢◌, nat_le}
use Rattle.std.specs.List.{prefix_len}
use Rattle.std.proofs.Math.Seq.{drop-append_seam}
use Rattle.std.proofs.lemmas.List.{length-take}
use Rattle.std.proofs.lemmas.List.Sums.{prefix_len-le-length}
use Rattle.std.proofs.lemmas.Bool.Decides.{nat_tests}
use Rattle.fluent_grammar.specs.Words.{Text, space, line_feed, number_sign, begins, begins_with, begins_entry, after_line_end, comment_level}
use Rattle.fluent_grammar.specs.Tree as t
use Rattle.fluent_grammar.specs.Ends.{EndsIn}
use Rattle.fluent_grammar.specs.Lexical.{SpellsLineEnd, lf, crlf, SpellsRestOfLine, line_ends, text_ends, line_byte}
use Rattle.fluent_grammar.specs.Spelling.{SpellsCommentText, at_end, empty_line, some_line, SpellsCommentLine, SpellsCommentLines, no_more_lines, one_more_line, SpellsComment, some_lines, SpellsEntry, a_comment, a_group_comment, a_resource_comment}
use Rattle.fluent_grammar.specs.Reading.{comment_of}
use Rattle.fluent_grammar.specs.Tiling.{listed}
use Rattle.fluent_grammar.specs.Blanks.{no_lines}
use Rattle.fluent_grammar.proofs.BlankWords.{line_end_complete}
use Rattle.fluent_grammar.proofs.Comments.{lines_sound, comment_complete}
use Rattle.fluent_grammar.proofs.Entries.{entry_complete}
use Rattle.fluent_grammar.proofs.LawsOfDepth.{entries_stay_within}
use Rattle.fluent_tidy_laws.proofs.Alike.{Alike, last, more, alike-split, alike-run, alike-no_end, none-spelled}
use Rattle.fluent_tidy_laws.proofs.MovingWords.{Same, here, there}
use Rattle.fluent_tidy_laws.proofs.MovingEntries.{stops_here, same-some, alike-same}
use Rattle.fluent_tidy_laws.proofs.Clean.{Clean, clean-behind, clean-entry, clean-follows}

-- ---- one line

pub none-of : (s : Text) → after_line_end s ≡ None → (m : Text) → SpellsLineEnd s m → ⊥
none-of s e m d = let k : after_line_end s ≡ Some m = line_end_complete d in absurd cc

line_end-ends : {s r : Text} → SpellsLineEnd s r → (r' : Text) → (s' : Text) × Alike line_feed r r' s s' × SpellsLineEnd s' r'
line_end-ends lf r' = (_, last, lf)
line_end-ends crlf r' = (_, more _ last, crlf)

rest_of_line-moves : {line s r : Text} → SpellsRestOfLine line s r → (r' : Text) → r ≢ [] → (s' : Text) × Alike line_feed r r' s s' × SpellsRestOfLine line s' r'
rest_of_line-moves (line_ends d) r' some = let e = line_end-ends d r' in (e.0, e.1, line_ends e.2)
rest_of_line-moves text_ends r' some = absurd (some refl)
rest_of_line-moves (line_byte {c} {s = s} none d) r' some =
    let e = rest_of_line-moves d r' some in
    let n : after_line_end (c ∷ e.0) ≡ None = alike-no_end refl (more c e.1) (none-spelled (c ∷ s) none _ refl) in
    (c ∷ e.0, more c e.1, line_byte (none-of (c ∷ e.0) n) e.2)

text-moves : {lines : List Text} {s r : Text} → SpellsCommentText lines s r → (r' : Text) → r ≢ [] → (s' : Text) × Alike line_feed r r' s s' × SpellsCommentText lines s' r'
text-moves at_end r' some = absurd (some refl)
text-moves (empty_line d) r' some = let e = line_end-ends d r' in (e.0, e.1, empty_line e.2)
text-moves (some_line d) r' some = let e = rest_of_line-moves d r' some in (space ∷ e.0, more space e.1, some_line e.2)

pub level-capped : (n : ℕ) (b : Bool) → nat_le n 3 ≡ b → cond b n 3 ≤ n
level-capped n true h = omega arith
level-capped n false h = grind (arith, nat_tests)

pub level-le : (s : Text) → comment_level s ≤ length s
level-le s = omega (arith, level-capped (prefix_len (λ c. c == number_sign) s) _ refl, prefix_len-le-length (λ c. c == number_sign) s)

pub level-same : {x x' s s' : Text} → Alike line_feed x x' s s' → comment_level s' ≡ comment_level s
level-same h = ap (λ n. cond (nat_le n 3) n 3) (sym (alike-run (λ c. c == number_sign) refl h))

drop-taken : (level : ℕ) (s y : Text) → level ≤ length s → drop level (take level s ++ y) ≡ y
drop-taken level s y h =
    let k : length (take level s) ≡ level = omega (arith, length-take level s) in
    ap (λ n. drop n (take level s ++ y)) (sym k) ∙ drop-append_seam (take level s) y

pub content-at : {lines : List Text} {a b r : Text} → a ≡ b → SpellsCommentText lines b r → SpellsCommentText lines a r
content-at h d = rw h d

pub line-moves : {level : ℕ} {lines : List Text} {s r : Text} → SpellsCommentLine level lines s r → (r' : Text) → r ≢ [] →
    (s' : Text) × Alike line_feed r r' s s' × SpellsCommentLine level lines s' r'
line-moves {level} {lines} {s} {r} d r' some =
    let e = text-moves d.content r' some in
    let h : Alike line_feed r r' s (take level s ++ e.0) = alike-split s (take level s) (sym (take-append-drop level s)) e.1 in
    let k : level ≤ length s = omega (arith, level-le s, d.sign) in
    (take level s ++ e.0, h, record { sign = level-same h ∙ d.sign; content = content-at (drop-taken level s e.0 k) e.2 })

-- ---- a line before a clean text

pub comment-entry : (k : ℕ) {lines : List Text} {s rest : Text} → suc k ≤ 3 → SpellsComment (suc k) lines s rest → SpellsEntry (comment_of (suc k) lines) s rest
comment-entry zero h d = a_comment d
comment-entry (suc zero) h d = a_group_comment d
comment-entry (suc (suc zero)) h d = a_resource_comment d
comment-entry (suc (suc (suc k))) h d = absurd (omega arith)

pub not_listed : (k : ℕ) (lines : List Text) → suc k ≤ 3 → listed (comment_of (suc k) lines ∷ []) ≡ []
not_listed zero lines h = refl
not_listed (suc zero) lines h = refl
not_listed (suc (suc zero)) lines h = refl
not_listed (suc (suc (suc k))) lines h = absurd (omega arith)

pub sign-begins : (s : Text) → begins_with number_sign s ≡ true → begins begins_entry s ≡ true
sign-begins [] h = absurd cc
sign-begins (c ∷ cs) h = grind (arith, nat_tests)

pub comment-begins : {k : ℕ} {lines : List Text} {s rest : Text} → SpellsComment (suc k) lines s rest → begins begins_entry s ≡ true
comment-begins {k} {lines} {s} d = sign-begins s (comment_complete d k refl).0

lists-drop : {s : Text} {x es fs : List t.Entry} → x ≡ [] → es ≡ x ++ fs → Clean s fs → Clean s es
lists-drop h e c = rw (e, h) c

-- what is after the lines of a comment in a clean text
pub behind-lines : (k : ℕ) {others : List Text} {s end : Text} {es : List t.Entry} → suc k ≤ 3 → SpellsCommentLines (suc k) others s end → Clean s es → Clean end es
behind-lines k h (no_more_lines none) c = c
behind-lines k h (one_more_line {line = line} {others = others} d m) c =
    let whole = some_lines d m in
    let f = clean-follows c (comment-begins whole) (comment_of (suc k) (line ++ others)) _ (comment-entry k h whole) in
    lists-drop (not_listed k (line ++ others) h) f.lists f.clean

pub entry-front : {e : t.Entry} {s rest : Text} → SpellsEntry e s rest → EndsIn rest s
entry-front {e} {s} {rest} d = rw (entry_complete d) at (entries_stay_within s)

pub entry-clean : {e : t.Entry} {s rest : Text} {es : List t.Entry} → begins begins_entry s ≡ true → listed (e ∷ []) ≡ [] → SpellsEntry e s rest → Clean rest es → Clean s es
entry-clean b n d c =
    let w = entry-front d in
    lists-drop-items n (clean-behind no_lines (stops_here b) (clean-entry w.front d w.whole c))
  where
    lists-drop-items : {s : Text} {x es : List t.Entry} → x ≡ [] → Clean s (x ++ es) → Clean s es
    lists-drop-items h c = rw h at c

pub line-clean : (k : ℕ) {lines : List Text} {s u : Text} {es : List t.Entry} (y : Text) → suc k ≤ 3 → SpellsCommentLine (suc k) lines s u → u ≢ [] → Clean y es →
    (s' : Text) × Alike line_feed u y s s' × Clean s' es
line-clean k y h d some c =
    let d' = line-moves d y some in
    let m = lines_sound (length y) k y (omega arith) in
    let whole = some_lines d'.2 m in
    (d'.0, d'.1, entry-clean (comment-begins whole) (not_listed k _ h) (comment-entry k h whole) (behind-lines k h m c))

-- ---- the whole comment

lines-clean : (k : ℕ) {lines : List Text} {s rest : Text} {es : List t.Entry} → SpellsCommentLines (suc k) lines s rest → (y : Text) → suc k ≤ 3 → rest ≢ [] → Clean y es →
    (s' : Text) × Same rest y s s' × Clean s' es
lines-clean k (no_more_lines none) y h some c = (y, here, c)
lines-clean k (one_more_line d m) y h some c =
    let m' = lines-clean k m y h some c in
    let d' = line-clean k m'.0 h d (same-some some m'.1) m'.2 in
    (d'.0, there (alike-same d'.1 m'.1), d'.2)

pub comment-clean : (k : ℕ) {lines : List Text} {s rest : Text} {es : List t.Entry} → SpellsComment (suc k) lines s rest → (y : Text) → suc k ≤ 3 → rest ≢ [] → Clean y es →
    (s' : Text) × Alike line_feed rest y s s' × Clean s' es
comment-clean k (some_lines d m) y h some c =
    let m' = lines-clean k m y h some c in
    let d' = line-clean k m'.0 h d (same-some some m'.1) m'.2 in
    (d'.0, alike-same d'.1 m'.1, d'.2)
