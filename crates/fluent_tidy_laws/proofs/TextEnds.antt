-- The end of a text that is joined to another: it ends in a line feed, or one is put after it, which its last text
-- piece loses again.
use Rattle.std.proofs.Common.{◌≡◌, ℕ, ◌<◌, true, false, not, [], ◌∷◌, ◌++◌, replicate, None, refl, sym, ap, ◌∙◌, arith, append_assoc, inl, inr, subst}
use Rattle.std.specs.Prelude.{◌==◌, ◌≢◌, ◌⊎◌}
use Rattle.std.specs.Str.{IsUtf8, trim_end}
use Rattle.fluent_grammar.specs.Words.{Text, space, line_feed, carriage_return, begins_crlf, spaces, skip_spaces, after_line_end}
use Rattle.fluent_grammar.specs.Lines.{ends_line, pattern_ends, goes_on_at_column_zero, ends_behind_spaces}
use Rattle.fluent_grammar.specs.Blanks.{BlankLines}
use Rattle.fluent_grammar.proofs.Cases.{cases, and-left}
use Rattle.fluent_tidy_laws.specs.Joined.{HasNoReturn}
use Rattle.fluent_tidy_laws.proofs.Alike.{Alike, last, more, alike-some, no_end-tests, tests-no_end}
use Rattle.fluent_tidy_laws.proofs.MovingWords.{skip_spaces-more}
use Rattle.fluent_tidy_laws.proofs.MovingPatterns.{crlf-text}
use Rattle.fluent_tidy_laws.proofs.LineFeeds.{EndsInFeed, lf_last, lf_later, lf-some}
use Rattle.fluent_tidy_laws.proofs.TextParts.{begins-append, no_return-right, no_return-tail, utf8-from, utf8-behind, utf8-tail, spaced-utf8, feed_is_trimmed}
use Rattle.fluent_grammar.proofs.Blanks.{skip_spaces-other, not-false}

-- ---- a line feed is trimmed

-- a text that loses a line feed after it, whatever spaces stand before it
abbrev pub Trims : Text → Type 0
Trims s = (n : ℕ) → trim_end ((replicate n space ++ s) ++ line_feed ∷ []) ≡ trim_end (replicate n space ++ s)

pub trims : (s : Text) → IsUtf8 s → Trims s
trims s u n = feed_is_trimmed (replicate n space ++ s) (spaced-utf8 n s u)

-- ---- UTF-8 after ASCII

-- ---- how two texts meet

-- The first ends in a line feed; or it doesn't, and what is put between them begins with one.
pub data Joint (blanks s : Text) : Type 0 where
  ended : EndsInFeed s → Joint blanks s
  unended : {more : Text} → HasNoReturn s → IsUtf8 s → BlankLines more → blanks ≡ line_feed ∷ more → Joint blanks s

-- at the start of a line: or nothing is left of the first
abbrev pub Lined : Text → Text → Type 0
Lined blanks s = (s ≡ []) ⊎ Joint blanks s

pub lined-some : {blanks s : Text} → s ≢ [] → Lined blanks s → Joint blanks s
lined-some some (inl e) = absurd (some e)
lined-some some (inr j) = j

pub lined-at : {blanks s u : Text} → s ≡ u → Lined blanks s → Lined blanks u
lined-at e h = rw e at h

pub joint-at : {blanks s u : Text} → s ≡ u → Joint blanks s → Joint blanks u
joint-at e j = rw e at j

pub lf-behind : {s : Text} → EndsInFeed s → (c : ℕ) (u : Text) → s ≡ c ∷ u → (u ≡ []) ⊎ EndsInFeed u
lf-behind lf_last c u e = inl cc
lf-behind (lf_later {s} d f) c u e = let k : s ≡ u = cc in inr (rw k at f)

pub lf-other : {s : Text} → EndsInFeed s → (c : ℕ) (u : Text) → s ≡ c ∷ u → (c == line_feed) ≡ false → EndsInFeed u
lf-other lf_last c u e n = absurd (let k : line_feed ≡ c = cc in let m : (line_feed == line_feed) ≡ false = rw (← k) at n in cc)
lf-other (lf_later {s} d f) c u e n = let k : s ≡ u = cc in rw k at f

pub lf-from : (s : Text) → ends_line s ≡ true → EndsInFeed s
lf-from [] e = absurd cc
lf-from (c ∷ []) e = let k : c ≡ line_feed = grind arith in rw k lf_last
lf-from (c ∷ d ∷ ds) e = lf_later c (lf-from (d ∷ ds) e)

pub lined-tail : {blanks : Text} (c : ℕ) (u : Text) → c < 128 → Joint blanks (c ∷ u) → Lined blanks u
lined-tail c u a (ended f) = elim (lf-behind f c u refl) [ inl e ↦ inl e | inr g ↦ inr (ended g) ]
lined-tail c u a (unended n h l e) = inr (unended (no_return-tail c u n) (utf8-tail c u h a) l e)

-- ---- after a front that two texts share

pub alike-whole : {a : ℕ} {x x' s s' : Text} → Alike a x x' s s' → (f : Text) × (s ≡ f ++ a ∷ x) × (s' ≡ f ++ a ∷ x')
alike-whole last = ([], refl, refl)
alike-whole (more c h) = let g = alike-whole h in (c ∷ g.0, ap (λ z. c ∷ z) g.1, ap (λ z. c ∷ z) g.2)

-- where the second goes on after the end of the first
pub alike-append : {a : ℕ} {x s s' : Text} (t : Text) → Alike a x (x ++ t) s s' → s' ≡ s ++ t
alike-append {a} {x} t h =
    let g = alike-whole h in
    g.2 ∙ sym (append_assoc g.0 (a ∷ x) t) ∙ ap (λ z. z ++ t) (sym g.1)

pub alike-lf : {a : ℕ} {x x' s s' : Text} → Alike a x x' s s' → EndsInFeed s → (x ≡ []) ⊎ EndsInFeed x
alike-lf last f = lf-behind f _ _ refl
alike-lf (more c h) f = elim (lf-behind f _ _ refl) [ inl e ↦ absurd (alike-some h e) | inr g ↦ alike-lf h g ]

alike-fed_other : {a : ℕ} {x x' s s' : Text} → Alike a x x' s s' → (a == line_feed) ≡ false → EndsInFeed s → EndsInFeed x
alike-fed_other last n f = lf-other f _ _ refl n
alike-fed_other (more c h) n f = elim (lf-behind f _ _ refl) [ inl e ↦ absurd (alike-some h e) | inr g ↦ alike-fed_other h n g ]

pub alike-no_return : {a : ℕ} {x x' s s' : Text} → Alike a x x' s s' → HasNoReturn s → HasNoReturn x
alike-no_return {a} {x} last n = no_return-tail a x n
alike-no_return (more {s = s} c h) n = alike-no_return h (no_return-tail c s n)

alike-utf8 : {a : ℕ} {x x' s s' : Text} → Alike a x x' s s' → a < 128 → IsUtf8 s → IsUtf8 x
alike-utf8 {a} {x} h l u = let g = alike-whole h in utf8-behind g.0 a x (subst IsUtf8 g.1 u) l

pub alike-lined : {blanks : Text} {a : ℕ} {x x' s s' : Text} → Alike a x x' s s' → a < 128 → Joint blanks s → Lined blanks x
alike-lined h l (ended f) = elim (alike-lf h f) [ inl e ↦ inl e | inr g ↦ inr (ended g) ]
alike-lined h l (unended n u b e) = inr (unended (alike-no_return h n) (alike-utf8 h l u) b e)

pub alike-joint : {blanks : Text} {a : ℕ} {x x' s s' : Text} → Alike a x x' s s' → a < 128 → (a == line_feed) ≡ false → Joint blanks s → Joint blanks x
alike-joint h l k (ended f) = ended (alike-fed_other h k f)
alike-joint h l k (unended n u b e) = unended (alike-no_return h n) (alike-utf8 h l u) b e

-- ---- what is put after a text that isn't empty

-- A text at whose end no carriage return stands.
abbrev pub Whole : Text → Type 0
Whole s = EndsInFeed s ⊎ HasNoReturn s

pub joint-whole : {blanks s : Text} → Joint blanks s → Whole s
joint-whole (ended f) = inl f
joint-whole (unended n h l e) = inr n

lf-one : (c : ℕ) {s : Text} → EndsInFeed s → s ≡ c ∷ [] → (c == carriage_return) ≡ false
lf-one c lf_last e = let k : line_feed ≡ c = cc in rw (← k) refl
lf-one c (lf_later d f) e = absurd (lf-some f cc)

no_return-one : (c : ℕ) → HasNoReturn (c ∷ []) → (c == carriage_return) ≡ false
no_return-one c n = not-false _ (and-left (not (c == carriage_return)) _ n)

whole-one : (c : ℕ) → Whole (c ∷ []) → (c == carriage_return) ≡ false
whole-one c (inl f) = lf-one c f refl
whole-one c (inr n) = no_return-one c n

pub whole-tail : (c : ℕ) (s : Text) → (c == line_feed) ≡ false → Whole (c ∷ s) → Whole s
whole-tail c s k (inl f) = inl (lf-other f c s refl k)
whole-tail c s k (inr n) = inr (no_return-tail c s n)

pub crlf-append : (s t : Text) → Whole s → s ≢ [] → begins_crlf (s ++ t) ≡ begins_crlf s
crlf-append [] t j some = absurd (some refl)
crlf-append (c ∷ []) t j some = rw (whole-one c j) refl
crlf-append (c ∷ d ∷ ds) t j some = refl

pub crlf-kept : (s t : Text) → begins_crlf s ≡ true → begins_crlf (s ++ t) ≡ true
crlf-kept s t h = rw (crlf-text s h) refl

pub no_end-append : (s t : Text) → Whole s → s ≢ [] → after_line_end s ≡ None → after_line_end (s ++ t) ≡ None
no_end-append s t j some e =
    let k = no_end-tests s e in
    tests-no_end (s ++ t) (begins-append (λ c. c == line_feed) s t some ∙ k.0) (crlf-append s t j some ∙ k.1)

-- ---- an end of a text that begins with ASCII

pub lf-suffix : (f : Text) (u : Text) → u ≢ [] → EndsInFeed (f ++ u) → EndsInFeed u
lf-suffix [] u some h = h
lf-suffix (c ∷ cs) u some h = elim (lf-behind h c (cs ++ u) refl) [ inl e ↦ absurd (behind-some cs u some e) | inr g ↦ lf-suffix cs u some g ]
  where
    behind-some : (f u : Text) → u ≢ [] → f ++ u ≡ [] → ⊥
    behind-some [] u some e = some e
    behind-some (c ∷ cs) u some e = cc

pub joint-suffix : {blanks : Text} (f : Text) (c : ℕ) (w : Text) → c < 128 → Joint blanks (f ++ c ∷ w) → Joint blanks (c ∷ w)
joint-suffix f c w a (ended h) = ended (lf-suffix f (c ∷ w) (λ e. cc) h)
joint-suffix f c w a (unended n u l e) = unended (no_return-right f (c ∷ w) n) (utf8-from f c w u a) l e

pub lf-ends : {s : Text} → EndsInFeed s → ends_line s ≡ true
lf-ends lf_last = refl
lf-ends (lf_later c f) = ends-more c f (lf-ends f)
  where
    ends-more : (c : ℕ) {s : Text} → EndsInFeed s → ends_line s ≡ true → ends_line (c ∷ s) ≡ true
    ends-more c lf_last e = refl
    ends-more c (lf_later d f) e = e

-- ---- spaces

pub spaces-lined : {blanks : Text} (s : Text) → Lined blanks s → Lined blanks (skip_spaces s)
spaces-lined [] h = inl refl
spaces-lined (c ∷ cs) (inl e) = absurd cc
spaces-lined (c ∷ cs) (inr j) = cases (c == space)
    (λ e. rw (skip_spaces-more c cs e) (spaces-lined cs (lined-tail c cs (let k : c ≡ space = grind arith in omega arith) j)))
    (λ e. rw (skip_spaces-other c cs e) (inr j))

pub skip_spaces-append : (s t : Text) → skip_spaces s ≢ [] → skip_spaces (s ++ t) ≡ skip_spaces s ++ t
skip_spaces-append [] t some = absurd (some refl)
skip_spaces-append (c ∷ cs) t some = cases (c == space)
    (λ e. rw (skip_spaces-more c cs e, skip_spaces-more c (cs ++ t) e) (skip_spaces-append cs t (λ k. some (skip_spaces-more c cs e ∙ k))))
    (λ e. rw (skip_spaces-other c cs e, skip_spaces-other c (cs ++ t) e) refl)

pub spaces-append : (s t : Text) → skip_spaces s ≢ [] → spaces (s ++ t) ≡ spaces s
spaces-append [] t some = absurd (some refl)
spaces-append (c ∷ cs) t some = cases (c == space)
    (λ e. rw (e, spaces-append cs t (λ k. some (skip_spaces-more c cs e ∙ k))) refl)
    (λ e. rw e refl)

pub skip-some : (s : Text) → skip_spaces s ≢ [] → s ≢ []
skip-some s some e = some (ap skip_spaces e)

pub pattern_ends-append : (s t : Text) → skip_spaces s ≢ [] → pattern_ends (s ++ t) ≡ pattern_ends s
pattern_ends-append s t some =
    let k : skip_spaces (s ++ t) ≡ skip_spaces s ++ t = skip_spaces-append s t some in
    let p = begins-append goes_on_at_column_zero s t (skip-some s some) in
    let q = begins-append ends_behind_spaces (skip_spaces s) t some in
    rw (k, p, q, spaces-append s t some) refl
