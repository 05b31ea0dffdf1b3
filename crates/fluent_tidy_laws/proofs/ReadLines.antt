-- The elements that the pieces of an unmarked pattern give: their texts are lines, and of those at a line start one keeps no space.
use Rattle.std.proofs.Common.{◌≡◌, ℕ, zero, suc, ◌-◌, Bool, true, false, cond, not, ◌&&◌, ◌||◌, List, [], ◌∷◌, ◌++◌, length, replicate, Option, Some, None, refl, sym, ap, ◌∙◌, arith}
use Rattle.std.specs.Prelude.{◌==◌, ◌≢◌}
use Rattle.std.specs.Str.{IsUtf8, trim_end}
use Rattle.fluent_grammar.specs.Words.{Text, line_feed, carriage_return, space, begins, spaces, skip_spaces}
use Rattle.fluent_grammar.specs.Tree as t
use Rattle.fluent_grammar.specs.Lexical.{is_text_byte}
use Rattle.fluent_grammar.specs.Lines.{Piece, at_line_start, in_line, placed, ends_line, is_blank_text, kept_spaces, dedented, trimmed_if_last, elements_from, ends_behind_spaces}
use Rattle.fluent_grammar.specs.LineLaws.{Tells, first_tells, later_tells}
use Rattle.fluent_grammar.proofs.Cases.{cases, and-left, and-right, or-left, or-right}
use Rattle.fluent_grammar.proofs.Got.{same, not_end}
use Rattle.fluent_tidy_laws.specs.Shapes.{ends_empty, elements_shaped, expression_shaped}
use Rattle.fluent_tidy_laws.specs.WellFormed.{is_line, may_start, has_margin, has_no_line, are_lines, EndsWell, WellFormedExpression, WellFormedElements}
use Rattle.fluent_tidy_laws.proofs.MovingWords.{skip_spaces-more}
use Rattle.fluent_tidy_laws.proofs.WrittenPieces.{spaces-first, no-spaces}
use Rattle.fluent_tidy_laws.proofs.TrimmedTexts.{Trimmed, trimmed-of, trimmed-rest, feed-trimmed, trimmed-not_blank, trimmed-no_end}
use Rattle.fluent_grammar.proofs.Blanks.{skip_spaces-spaced, skip_spaces-other}
use Rattle.fluent_tidy_laws.proofs.TextParts.{spaced-utf8}
use Rattle.fluent_grammar.proofs.Complete.{some_text}

-- ---- what pieces are

-- a text of a piece: a line, not empty, of UTF-8
pub record IsPart (s : Text) : Type 0 where
  pub utf8 : IsUtf8 s
  pub line : is_line s ≡ true
  pub some : s ≢ []

-- one at a line start, after its spaces
pub record IsStart (s : Text) : Type 0 where
  pub part : IsPart s
  pub flush : spaces s ≡ 0
  pub goes_on : begins ends_behind_spaces s ≡ false

-- The pieces of an unmarked pattern, after a text that doesn't end its line or not, at a line start or not.
abbrev pub Lined : Bool → Bool → List Piece → Type 0
Lined behind at [] = Unit {0}
Lined behind at (at_line_start n s ∷ ps) = (behind ≡ false) × (at ≡ true) × IsStart s × Lined (not (ends_line s)) (ends_line s) ps
Lined behind at (in_line s ∷ ps) = (behind ≡ false) × (at ≡ false) × IsPart s × Lined (not (ends_line s)) (ends_line s) ps
Lined behind at (placed z e ∷ ps) = (z ≡ false) × (expression_shaped e ≡ false → WellFormedExpression e) × Lined false false ps

-- ---- texts

pub flush-none : (c : ℕ) (cs : Text) → spaces (c ∷ cs) ≡ 0 → (c == space) ≡ false
flush-none c cs h = cases (c == space)
    (λ k. absurd (omega (arith, spaces-first c cs k)))
    (λ k. k)

or-true : (x : Bool) → (x || true) ≡ true
or-true true = refl
or-true false = refl

-- of a line, what stands at its front is one
line-front : (a b : Text) → is_line (a ++ b) ≡ true → is_line a ≡ true
line-front [] b h = refl
line-front (c ∷ []) [] h = h
line-front (c ∷ []) (d ∷ ds) h = let k : (is_text_byte c && not (c == carriage_return)) ≡ true = and-left _ _ h in rw k (or-true (c == line_feed))
line-front (c ∷ d ∷ ds) b h = let k : (is_text_byte c && not (c == carriage_return)) ≡ true = and-left _ _ h in rw k (line-front (d ∷ ds) b (and-right _ _ h))

-- what a front that isn't blank tells of the whole
blank-front : (a b : Text) → is_blank_text a ≡ false → is_blank_text (a ++ b) ≡ false
blank-front [] b h = absurd cc
blank-front (c ∷ cs) b h = cases (c == space || c == line_feed)
    (λ k. let m : is_blank_text cs ≡ false = rw k at h in rw k (blank-front cs b m))
    (λ k. rw k refl)

spaces-front : (a b : Text) → is_blank_text a ≡ false → spaces (a ++ b) ≡ spaces a
spaces-front [] b h = absurd cc
spaces-front (c ∷ cs) b h = cases (c == space)
    (λ k. let m : is_blank_text cs ≡ false = rw k at h in rw (k, spaces-front cs b m) refl)
    (λ k. rw k refl)

begins-front : (p : ℕ → Bool) (a b : Text) → is_blank_text a ≡ false → begins p (skip_spaces (a ++ b)) ≡ begins p (skip_spaces a)
begins-front p [] b h = absurd cc
begins-front p (c ∷ cs) b h = cases (c == space)
    (λ k. let m : is_blank_text cs ≡ false = rw k at h in rw (skip_spaces-more c (cs ++ b) k, skip_spaces-more c cs k) (begins-front p cs b m))
    (λ k. rw (skip_spaces-other c (cs ++ b) k, skip_spaces-other c cs k) refl)

-- ---- spaces before a text
indented-some : (k : ℕ) (s : Text) → s ≢ [] → replicate k space ++ s ≢ []
indented-some zero s h = h
indented-some (suc k) s h = λ e. cc

indented-line : (k : ℕ) (s : Text) → is_line s ≡ true → s ≢ [] → is_line (replicate k space ++ s) ≡ true
indented-line zero s h some = h
indented-line (suc k) s h some = behind-space (replicate k space ++ s) (indented-line k s h some) (indented-some k s some)
  where
    behind-space : (u : Text) → is_line u ≡ true → u ≢ [] → is_line (space ∷ u) ≡ true
    behind-space [] h some = refl
    behind-space (d ∷ ds) h some = h

indented-ends : (k : ℕ) (s : Text) → s ≢ [] → ends_line (replicate k space ++ s) ≡ ends_line s
indented-ends zero s some = refl
indented-ends (suc k) s some = behind-space (replicate k space ++ s) (indented-some k s some) ∙ indented-ends k s some
  where
    behind-space : (u : Text) → u ≢ [] → ends_line (space ∷ u) ≡ ends_line u
    behind-space [] some = absurd (some refl)
    behind-space (d ∷ ds) some = refl

indented-blank : (k : ℕ) (s : Text) → is_blank_text (replicate k space ++ s) ≡ is_blank_text s
indented-blank zero s = refl
indented-blank (suc k) s = indented-blank k s

-- ---- a text of an element, before the last is trimmed

pub record Fit (at : Bool) (s : Text) : Type 0 where
  pub utf8 : IsUtf8 s
  pub line : is_line s ≡ true
  pub some : s ≢ []
  pub ended : at ≡ true → is_blank_text s ≡ true → ends_line s ≡ true
  pub goes_on : at ≡ true → begins ends_behind_spaces (skip_spaces s) ≡ false

-- a blank line that begins without a space is a line feed
blank-ended : (s : Text) → is_line s ≡ true → s ≢ [] → spaces s ≡ 0 → is_blank_text s ≡ true → ends_line s ≡ true
blank-ended [] l some f b = absurd (some refl)
blank-ended (c ∷ []) l some f b = let k = flush-none c [] f in let m : (c == space || c == line_feed) ≡ true = and-left _ _ b in rw k at m
blank-ended (c ∷ d ∷ ds) l some f b =
    let k = flush-none c (d ∷ ds) f in
    let m : (c == space || c == line_feed) ≡ true = and-left _ _ b in
    let n : (c == line_feed) ≡ true = rw k at m in
    let o : is_text_byte c ≡ true = and-left _ _ (and-left _ _ l) in
    absurd (no-feed c n o)
  where
    no-feed : (c : ℕ) → (c == line_feed) ≡ true → is_text_byte c ≡ true → ⊥
    no-feed c n o = let e = same c line_feed n in let m : is_text_byte line_feed ≡ true = rw e at o in absurd cc

pub part-fit : (s : Text) → IsPart s → Fit false s
part-fit s p = record { utf8 = p.utf8; line = p.line; some = p.some; ended = λ h b. absurd cc; goes_on = λ h. absurd cc }

start-fit : (k : ℕ) (s : Text) → IsStart s → Fit true (replicate k space ++ s)
start-fit k s p = record {
  utf8 = spaced-utf8 k s p.part.utf8;
  line = indented-line k s p.part.line p.part.some;
  some = indented-some k s p.part.some;
  ended = λ h b. indented-ends k s p.part.some ∙ blank-ended s p.part.line p.part.some p.flush (sym (indented-blank k s) ∙ b);
  goes_on = λ h. ap (begins ends_behind_spaces) (skip_spaces-spaced k s ∙ no-spaces s p.flush) ∙ p.goes_on;
}

-- the spaces that a text keeps
kept : (c : Option ℕ) (n : ℕ) → (k : ℕ) × (kept_spaces c n ≡ replicate k space)
kept None n = (0, refl)
kept (Some m) n = (n - m, refl)

fit-at : {at : Bool} {s u : Text} → s ≡ u → Fit at u → Fit at s
fit-at e f = rw e f

dedented-is : (c : Option ℕ) (n : ℕ) (s : Text) → dedented c n s ≡ replicate (kept c n).0 space ++ s
dedented-is c n s = ap (λ z. z ++ s) (kept c n).1

pub dedented-fit : (c : Option ℕ) (n : ℕ) (s : Text) → IsStart s → Fit true (dedented c n s)
dedented-fit c n s p = fit-at (dedented-is c n s) (start-fit (kept c n).0 s p)

dedented-ends : (c : Option ℕ) (n : ℕ) (s : Text) → s ≢ [] → ends_line (dedented c n s) ≡ ends_line s
dedented-ends c n s some = ap ends_line (dedented-is c n s) ∙ indented-ends (kept c n).0 s some

pub dedented-blank : (c : Option ℕ) (n : ℕ) (s : Text) → is_blank_text (dedented c n s) ≡ is_blank_text s
dedented-blank c n s = ap is_blank_text (dedented-is c n s) ∙ indented-blank (kept c n).0 s

-- ---- what is left of a text

-- A text that is trimmed, to something, or isn't.
pub record Left (s x : Text) : Type 0 where
  pub line : is_line s ≡ true → is_line x ≡ true
  pub some : (length x == 0) ≡ false
  pub blank : is_blank_text x ≡ is_blank_text s
  pub margin : spaces x ≡ spaces s
  pub begun : (p : ℕ → Bool) → begins p (skip_spaces x) ≡ begins p (skip_spaces s)
  pub ends : is_blank_text s ≡ true → ends_line x ≡ ends_line s

left-same : (s : Text) → s ≢ [] → Left s s
left-same s some = record { line = λ h. h; some = some_text s some; blank = refl; margin = refl; begun = λ p. refl; ends = λ h. refl }

left-trimmed : (s x : Text) → Trimmed s x → (length x == 0) ≡ false → Left s x
left-trimmed s x d some =
    let b = trimmed-not_blank d (not_end x some) in
    let r = trimmed-rest d in
    let f : is_blank_text s ≡ false = ap is_blank_text r.1 ∙ blank-front x r.0 b in
    record {
      line = λ h. line-front x r.0 (ap is_line (sym r.1) ∙ h);
      some = some;
      blank = b ∙ sym f;
      margin = sym (ap spaces r.1 ∙ spaces-front x r.0 b);
      begun = λ p. sym (ap (λ z. begins p (skip_spaces z)) r.1 ∙ begins-front p x r.0 b);
      ends = λ h. absurd cc;
    }

ends_empty-more : (c : Option ℕ) (s : Text) (ps : List Piece) → ends_empty (t.text s (elements_from c ps)) ≡ false → ends_empty (elements_from c ps) ≡ false
ends_empty-more c s [] h = refl
ends_empty-more c s (at_line_start n u ∷ ps) h = h
ends_empty-more c s (in_line u ∷ ps) h = h
ends_empty-more c s (placed z e ∷ ps) h = h

pub text-left : {at : Bool} (c : Option ℕ) (ps : List Piece) (s : Text) → Fit at s → ends_empty (t.text (trimmed_if_last ps s) (elements_from c ps)) ≡ false → Left s (trimmed_if_last ps s)
text-left c [] s f h = left-trimmed s (trim_end s) (trimmed-of s f.utf8) h
text-left c (p ∷ ps) s f h = left-same s f.some

-- ---- the texts are lines

line-start : (at : Bool) {s x : Text} → Fit at s → Left s x → (not at || may_start x) ≡ true
line-start false f l = refl
line-start true {s} {x} f l = by (is_blank_text x) refl
  where
    by : (b : Bool) → is_blank_text x ≡ b → cond b (ends_line x) (not (begins ends_behind_spaces (skip_spaces x))) ≡ true
    by true e = let k : is_blank_text s ≡ true = sym l.blank ∙ e in l.ends k ∙ f.ended refl k
    by false e = let k : begins ends_behind_spaces (skip_spaces x) ≡ false = l.begun ends_behind_spaces ∙ f.goes_on refl in rw k refl

-- after the last nothing is asked
lines-behind : (c : Option ℕ) (ps : List Piece) (s : Text) (b : Bool) → ends_line s ≡ b → are_lines (not b) b (elements_from c ps) ≡ true →
    are_lines (not (ends_line (trimmed_if_last ps s))) (ends_line (trimmed_if_last ps s)) (elements_from c ps) ≡ true
lines-behind c [] s b e h = refl
lines-behind c (p ∷ ps) s b e h = rw e h

text-lines : (c : Option ℕ) (ps : List Piece) (behind at : Bool) (s : Text) (b : Bool) → ends_line s ≡ b → behind ≡ false → Fit at s → ends_empty (t.text (trimmed_if_last ps s) (elements_from c ps)) ≡ false →
    are_lines (not b) b (elements_from c ps) ≡ true → are_lines behind at (t.text (trimmed_if_last ps s) (elements_from c ps)) ≡ true
text-lines c ps behind at s b e z f h more =
    let l = text-left c ps s f h in
    let i : is_line (trimmed_if_last ps s) ≡ true = l.line f.line in
    rw (z, i, l.some, line-start at f l) (lines-behind c ps s b e more)

pub lines-of : (c : Option ℕ) (ks : List Piece) (behind at : Bool) → Lined behind at ks → ends_empty (elements_from c ks) ≡ false → are_lines behind at (elements_from c ks) ≡ true
lines-of c [] behind at l h = refl
lines-of c (at_line_start n s ∷ ps) behind at l h =
    let f : Fit at (dedented c n s) = rw l.1 (dedented-fit c n s l.2) in
    text-lines c ps behind at (dedented c n s) (ends_line s) (dedented-ends c n s l.2.part.some) l.0 f h (lines-of c ps _ _ l.3 (ends_empty-more c _ ps h))
lines-of c (in_line s ∷ ps) behind at l h =
    let f : Fit at s = rw l.1 (part-fit s l.2) in
    text-lines c ps behind at s (ends_line s) refl l.0 f h (lines-of c ps _ _ l.3 (ends_empty-more c _ ps h))
lines-of c (placed z e ∷ ps) behind at l h = lines-of c ps false false l.2 h

-- ---- the last element

ends-behind : (c : Option ℕ) (s : Text) (p : Piece) (ps : List Piece) → EndsWell (elements_from c (p ∷ ps)) → EndsWell (t.text s (elements_from c (p ∷ ps)))
ends-behind c s (at_line_start n u) ps h = h
ends-behind c s (in_line u) ps h = h
ends-behind c s (placed z e) ps h = h

ends-placed : (c : Option ℕ) (e : t.Expression) (p : Piece) (ps : List Piece) → EndsWell (elements_from c (p ∷ ps)) → EndsWell (t.placeable e (elements_from c (p ∷ ps)))
ends-placed c e (at_line_start n u) ps h = h
ends-placed c e (in_line u) ps h = h
ends-placed c e (placed z x) ps h = h

ends-text : (c : Option ℕ) (ps : List Piece) (s : Text) → IsUtf8 s → ends_empty (t.text (trimmed_if_last ps s) (elements_from c ps)) ≡ false →
    ((ps ≢ []) → EndsWell (elements_from c ps)) → EndsWell (t.text (trimmed_if_last ps s) (elements_from c ps))
ends-text c [] s u h more =
    let d = trimmed-of s u in
    (feed-trimmed d, trimmed-not_blank d (not_end (trim_end s) h), trimmed-no_end d)
ends-text c (p ∷ ps) s u h more = ends-behind c s p ps (more (λ e. cc))

pub ends-of : (c : Option ℕ) (ks : List Piece) (behind at : Bool) → Lined behind at ks → ends_empty (elements_from c ks) ≡ false → ks ≢ [] → EndsWell (elements_from c ks)
ends-of c [] behind at l h some = absurd (some refl)
ends-of c (at_line_start n s ∷ ps) behind at l h some =
    ends-text c ps (dedented c n s) (dedented-fit c n s l.2).utf8 h (λ k. ends-of c ps _ _ l.3 (ends_empty-more c _ ps h) k)
ends-of c (in_line s ∷ ps) behind at l h some = ends-text c ps s l.2.utf8 h (λ k. ends-of c ps _ _ l.3 (ends_empty-more c _ ps h) k)
ends-of c (placed z e ∷ []) behind at l h some = tt
ends-of c (placed z e ∷ (p ∷ ps)) behind at l h some = ends-placed c e p ps (ends-of c (p ∷ ps) false false l.2 h (λ k. cc))

-- ---- the placeables

pub placed-of : (c : Option ℕ) (ks : List Piece) (behind at : Bool) → Lined behind at ks → elements_shaped (elements_from c ks) ≡ false → WellFormedElements (elements_from c ks)
placed-of c [] behind at l h = tt
placed-of c (at_line_start n s ∷ ps) behind at l h = placed-of c ps _ _ l.3 h
placed-of c (in_line s ∷ ps) behind at l h = placed-of c ps _ _ l.3 h
placed-of c (placed z e ∷ ps) behind at l h = (l.1 (or-left _ _ h), placed-of c ps _ _ l.2 (or-right _ _ h))

-- ---- a line without margin

margin-behind : (c : Option ℕ) (ps : List Piece) (s : Text) (b : Bool) → ends_line s ≡ b → has_margin b (elements_from c ps) ≡ true → has_margin (ends_line (trimmed_if_last ps s)) (elements_from c ps) ≡ true
margin-behind c [] s b e h = absurd cc
margin-behind c (p ∷ ps) s b e h = rw e h

no_line-behind : (c : Option ℕ) (ps : List Piece) (s : Text) (b : Bool) → ends_line s ≡ b → has_no_line b (elements_from c ps) ≡ true → has_no_line (ends_line (trimmed_if_last ps s)) (elements_from c ps) ≡ true
no_line-behind c [] s b e h = refl
no_line-behind c (p ∷ ps) s b e h = rw e h

told-indent : (m n : ℕ) (b : Bool) → cond b None (Some m) ≡ Some n → (b ≡ false) × (m ≡ n)
told-indent m n true h = absurd cc
told-indent m n false h = (refl, cc)

no-excess : (n : ℕ) → n - n ≡ 0
no-excess n = omega arith

dedented-none : (n : ℕ) (s : Text) → dedented (Some n) n s ≡ s
dedented-none n s = ap (λ k. replicate k space ++ s) (no-excess n)

pub margin-of : (n : ℕ) (ks : List Piece) (behind at : Bool) → Tells n ks → Lined behind at ks → ends_empty (elements_from (Some n) ks) ≡ false → has_margin at (elements_from (Some n) ks) ≡ true
margin-of n [] behind at d l h = elim d [ ]
margin-of n (at_line_start m s ∷ ps) behind at (first_tells e) l h =
    let k = told-indent m n (is_blank_text s) e in
    let f : Fit true (dedented (Some n) m s) = dedented-fit (Some n) m s l.2 in
    let x = text-left (Some n) ps (dedented (Some n) m s) f h in
    let g : dedented (Some n) m s ≡ s = rw k.1 (dedented-none n s) in
    let b : is_blank_text (trimmed_if_last ps (dedented (Some n) m s)) ≡ false = x.blank ∙ ap is_blank_text g ∙ k.0 in
    let z : spaces (trimmed_if_last ps (dedented (Some n) m s)) ≡ 0 = x.margin ∙ ap spaces g ∙ l.2.flush in
    rw (l.1, b, z) refl
margin-of n (at_line_start m s ∷ ps) behind at (later_tells d) l h =
    or-more _ _ (margin-behind (Some n) ps (dedented (Some n) m s) (ends_line s) (dedented-ends (Some n) m s l.2.part.some) (margin-of n ps _ _ d l.3 (ends_empty-more (Some n) _ ps h)))
  where
    or-more : (a b : Bool) → b ≡ true → (a || b) ≡ true
    or-more true b h = refl
    or-more false b h = h
margin-of n (in_line s ∷ ps) behind at (first_tells e) l h = absurd cc
margin-of n (in_line s ∷ ps) behind at (later_tells d) l h = rw l.1 (margin-behind (Some n) ps s (ends_line s) refl (margin-of n ps _ _ d l.3 (ends_empty-more (Some n) _ ps h)))
margin-of n (placed z e ∷ ps) behind at (first_tells k) l h = absurd (no-tell z n l.0 k)
  where
    no-tell : (z : Bool) (n : ℕ) → z ≡ false → cond z (Some 0) None ≡ Some n → ⊥
    no-tell true n e k = absurd cc
    no-tell false n e k = absurd cc
margin-of n (placed z e ∷ ps) behind at (later_tells d) l h = margin-of n ps false false d l.2 h

pub no_line-of : (ks : List Piece) (behind at : Bool) → ((n : ℕ) → Tells n ks → ⊥) → Lined behind at ks → ends_empty (elements_from None ks) ≡ false → has_no_line at (elements_from None ks) ≡ true
no_line-of [] behind at none l h = refl
no_line-of (at_line_start m s ∷ ps) behind at none l h =
    let b : is_blank_text s ≡ true = cases (is_blank_text s) (λ k. k) (λ k. absurd (none m (first_tells (some-told m (is_blank_text s) k)))) in
    let x = text-left None ps s (dedented-fit None m s l.2) h in
    let e : is_blank_text (trimmed_if_last ps s) ≡ true = x.blank ∙ b in
    let z : spaces (trimmed_if_last ps s) ≡ 0 = x.margin ∙ l.2.flush in
    rw (l.1, e, z) (no_line-behind None ps s (ends_line s) refl (no_line-of ps _ _ (λ n d. none n (later_tells d)) l.3 (ends_empty-more None _ ps h)))
  where
    some-told : (m : ℕ) (b : Bool) → b ≡ false → cond b None (Some m) ≡ Some m
    some-told m b e = rw e refl
no_line-of (in_line s ∷ ps) behind at none l h =
    rw l.1 (no_line-behind None ps s (ends_line s) refl (no_line-of ps _ _ (λ n d. none n (later_tells d)) l.3 (ends_empty-more None _ ps h)))
no_line-of (placed z e ∷ ps) behind at none l h = no_line-of ps false false (λ n d. none n (later_tells d)) l.2 h
