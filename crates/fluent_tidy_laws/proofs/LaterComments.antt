-- A comment that ends at the end of a text, before a clean text: its last line ends in the line feed there.
use Rattle.std.proofs.Common.{◌≡◌, ℕ, suc, ◌≤◌, ◌<◌, Bool, false, cond, List, [], ◌∷◌, ◌++◌, length, drop, None, refl, sym, ap, ◌∙◌, arith, inl, inr, take, take-append-drop}
use Rattle.std.specs.Prelude.{◌==◌, ◌≢◌, nat_le}
use Rattle.std.specs.List.{prefix_len}
use Rattle.std.proofs.lemmas.List.{drop-append-le, length-drop}
use Rattle.fluent_grammar.specs.Words.{Text, space, line_feed, number_sign, after_line_end, comment_level}
use Rattle.fluent_grammar.specs.Tree.{Entry}
use Rattle.fluent_grammar.specs.Lexical.{lf, SpellsRestOfLine, line_ends, text_ends, line_byte}
use Rattle.fluent_grammar.specs.Spelling.{SpellsCommentText, at_end, empty_line, some_line, SpellsCommentLine, SpellsCommentLines, no_more_lines, one_more_line, SpellsComment, some_lines}
use Rattle.fluent_grammar.proofs.Cases.{cases}
use Rattle.fluent_grammar.proofs.Got.{same}
use Rattle.fluent_grammar.proofs.Comments.{lines_sound}
use Rattle.fluent_tidy_laws.specs.Joined.{HasNoReturn}
use Rattle.fluent_tidy_laws.proofs.Alike.{Alike, none-spelled}
use Rattle.fluent_tidy_laws.proofs.MovingComments.{none-of, level-capped, level-le, line-moves, line-clean, comment-begins, comment-entry, not_listed, behind-lines, entry-clean, content-at}
use Rattle.fluent_tidy_laws.proofs.Clean.{Clean, clean-at}
use Rattle.fluent_tidy_laws.proofs.LineFeeds.{EndsInFeed, lf-some}
use Rattle.fluent_tidy_laws.proofs.TextEnds.{Whole, lf-other, lf-suffix, alike-lf, alike-no_return, alike-append, no_end-append}
use Rattle.fluent_tidy_laws.proofs.LaterEntries.{line_end-append}
use Rattle.fluent_tidy_laws.proofs.TextParts.{empty_or, no_return-tail, no_return-right}

-- A text ends in a line feed, or one follows, and what follows that is clean.
pub data Meets (es : List Entry) (t s : Text) : Type 0 where
  at_feed : EndsInFeed s → Meets es t s
  before_feed : HasNoReturn s → (more : Text) → t ≡ line_feed ∷ more → Clean more es → Meets es t s

meets-whole : {es : List Entry} {t s : Text} → Meets es t s → Whole s
meets-whole (at_feed f) = inl f
meets-whole (before_feed n m e c) = inr n

meets-tail : {es : List Entry} {t : Text} (c : ℕ) (s : Text) → (c == line_feed) ≡ false → Meets es t (c ∷ s) → Meets es t s
meets-tail c s n (at_feed f) = at_feed (lf-other f c s refl n)
meets-tail c s n (before_feed r m e k) = before_feed (no_return-tail c s r) m e k

meets-suffix : {es : List Entry} {t s : Text} (f u : Text) → s ≡ f ++ u → u ≢ [] → Meets es t s → Meets es t u
meets-suffix f u e some (at_feed h) = at_feed (lf-suffix f u some (rw e at h))
meets-suffix f u e some (before_feed r m k c) = before_feed (no_return-right f u (rw e at r)) m k c

-- ---- the last line

record LastText (lines : List Text) (s : Text) (es : List Entry) : Type 0 where
  left : Text
  spelled : SpellsCommentText lines s left
  clean : Clean left es

record LastRest (line s : Text) (es : List Entry) : Type 0 where
  left : Text
  spelled : SpellsRestOfLine line s left
  clean : Clean left es

clean-put : {r t : Text} {es : List Entry} → r ≡ [] → Clean t es → Clean (r ++ t) es
clean-put e c = rw e c

rest_of_line-later : {line s r t : Text} {es : List Entry} → SpellsRestOfLine line s r → r ≡ [] → Meets es t s → Clean t es → LastRest line (s ++ t) es
rest_of_line-later {t = t} (line_ends {rest = r} d) e j c = record { left = r ++ t; spelled = line_ends (line_end-append t d); clean = clean-put e c }
rest_of_line-later text_ends e (at_feed f) c = absurd (lf-some f refl)
rest_of_line-later text_ends e (before_feed n m k clean) c = record { left = m; spelled = rw k (line_ends lf); clean = clean }
rest_of_line-later {t = t} (line_byte {c = b} {s = s} none d) e j c =
    cases (b == line_feed)
    (λ h. absurd (let k : b ≡ line_feed = same b line_feed h in none s (rw k lf)))
    (λ h.
    let r = rest_of_line-later d e (meets-tail b s h j) c in
    let n : after_line_end ((b ∷ s) ++ t) ≡ None = no_end-append (b ∷ s) t (meets-whole j) (λ z. cc) (none-spelled (b ∷ s) none _ refl) in
    record { left = r.left; spelled = line_byte (none-of ((b ∷ s) ++ t) n) r.spelled; clean = r.clean })

record SomeText (s : Text) (es : List Entry) : Type 0 where
  lines : List Text
  last : LastText lines s es

text-later : {lines : List Text} {s r t : Text} {es : List Entry} → SpellsCommentText lines s r → r ≡ [] → (s ≡ [] → (more : Text) × (t ≡ line_feed ∷ more) × Clean more es) → (s ≢ [] → Meets es t s) → Clean t es → SomeText (s ++ t) es
text-later at_end e k j c = let m = k refl in record { lines = [] ∷ []; last = record { left = m.0; spelled = rw m.1 (empty_line lf); clean = m.2 } }
text-later {t = t} (empty_line {rest = r} d) e k j c = record { lines = [] ∷ []; last = record { left = r ++ t; spelled = empty_line (line_end-append t d); clean = clean-put e c } }
text-later (some_line {line = line} {s = s} d) e k j c =
    let r = rest_of_line-later d e (meets-tail space s refl (j (λ z. cc))) c in
    record { lines = line ∷ []; last = record { left = r.left; spelled = some_line r.spelled; clean = r.clean } }

-- ---- its sign

run-later : {es : List Entry} {t : Text} (p : ℕ → Bool) (s : Text) → p line_feed ≡ false → Meets es t s → prefix_len p (s ++ t) ≡ prefix_len p s
run-later p [] n (at_feed f) = absurd (lf-some f refl)
run-later p [] n (before_feed r m k c) = rw (k, n) refl
run-later p (c ∷ cs) n j = cases (p c)
    (λ e. cases (c == line_feed)
    (λ h. absurd (let k : p c ≡ false = ap p (same c line_feed h) ∙ n in cc))
    (λ h. rw (e, run-later p cs n (meets-tail c cs h j)) refl))
    (λ e. rw e refl)

level-later : {es : List Entry} {t : Text} (s : Text) → Meets es t s → comment_level (s ++ t) ≡ comment_level s
level-later s j = ap (λ n. cond (nat_le n 3) n 3) (run-later (λ c. c == number_sign) s refl j)

lf-run : (p : ℕ → Bool) (s : Text) → p line_feed ≡ false → EndsInFeed s → prefix_len p s < length s
lf-run p [] n f = absurd (lf-some f refl)
lf-run p (c ∷ cs) n f = cases (p c)
    (λ e. cases (c == line_feed)
    (λ h. absurd (let k : p c ≡ false = ap p (same c line_feed h) ∙ n in cc))
    (λ h. let k = lf-run p cs n (lf-other f c cs refl h) in rw e (omega (arith, k))))
    (λ e. rw e (omega arith))

sign-lf : (s : Text) → EndsInFeed s → (level : ℕ) → comment_level s ≡ level → drop level s ≢ []
sign-lf s f level e k =
    let n = lf-run (λ c. c == number_sign) s refl f in
    let m : level ≤ prefix_len (λ c. c == number_sign) s = omega (arith, e, level-capped (prefix_len (λ c. c == number_sign) s) _ refl) in
    let l : length (drop level s) ≡ 0 = ap length k in
    omega (arith, n, m, l, length-drop level s)

feed-behind : {es : List Entry} {t s : Text} → (level : ℕ) → comment_level s ≡ level → Meets es t s → drop level s ≡ [] → (more : Text) × (t ≡ line_feed ∷ more) × Clean more es
feed-behind {s = s} level e (at_feed f) k = absurd (sign-lf s f level e k)
feed-behind level e (before_feed n m h c) k = (m, h, c)

-- ---- a line before a clean text, and the whole comment

line-joins : (k : ℕ) {lines : List Text} {s y : Text} {es : List Entry} → suc k ≤ 3 → SpellsCommentLine (suc k) lines s y → Clean y es → Clean s es
line-joins k {y = y} h d c =
    let m = lines_sound (length y) k y (omega arith) in
    let whole = some_lines d m in
    entry-clean (comment-begins whole) (not_listed k _ h) (comment-entry k h whole) (behind-lines k h m c)

last-line : (k : ℕ) {lines : List Text} {s r t : Text} {es : List Entry} → suc k ≤ 3 → SpellsCommentLine (suc k) lines s r → r ≡ [] → Meets es t s → Clean t es → Clean (s ++ t) es
last-line k {s = s} {t = t} h d e j c =
    let level = suc k in
    let le : level ≤ length s = omega (arith, level-le s, d.sign) in
    let r = text-later d.content e (feed-behind level d.sign j) (λ some. meets-suffix (take level s) (drop level s) (sym (take-append-drop level s)) some j) c in
    line-joins k h (record { sign = level-later s j ∙ d.sign; content = content-at (drop-append-le level s t le) r.last.spelled }) r.last.clean

-- a line before the rest of its comment
more-line : (k : ℕ) {lines : List Text} {s u t : Text} {es : List Entry} → suc k ≤ 3 → SpellsCommentLine (suc k) lines s u → Meets es t s → Clean t es →
    (u ≢ [] → Meets es t u → Clean (u ++ t) es) → Clean (s ++ t) es
more-line k {s = s} {u = u} {t = t} h d j c left =
    elim (empty_or u) [
      | inl e ↦ last-line k h d e j c
      | inr some ↦
          let m = line-moves d (u ++ t) some in
          let l = line-clean k (u ++ t) h d some (left some (meets-behind m.1 some j)) in
          clean-at (sym (alike-append t l.1)) l.2
    ]
  where
    meets-behind : {es : List Entry} {x x' t s s' : Text} → Alike line_feed x x' s s' → x ≢ [] → Meets es t s → Meets es t x
    meets-behind a some (at_feed f) = elim (alike-lf a f) [ inl e ↦ absurd (some e) | inr g ↦ at_feed g ]
    meets-behind a some (before_feed r m e c) = before_feed (alike-no_return a r) m e c

lines-later : (k : ℕ) {lines : List Text} {s rest t : Text} {es : List Entry} → SpellsCommentLines (suc k) lines s rest → suc k ≤ 3 → rest ≡ [] → s ≢ [] → Meets es t s → Clean t es → Clean (s ++ t) es
lines-later k (no_more_lines none) h e some j c = absurd (some e)
lines-later k (one_more_line d m) h e some j c = more-line k h d j c (λ some j. lines-later k m h e some j c)

pub comment-later : (k : ℕ) {lines : List Text} {s rest t : Text} {es : List Entry} → SpellsComment (suc k) lines s rest → suc k ≤ 3 → rest ≡ [] → Meets es t s → Clean t es → Clean (s ++ t) es
comment-later k (some_lines d m) h e j c = more-line k h d j c (λ some j. lines-later k m h e some j c)
