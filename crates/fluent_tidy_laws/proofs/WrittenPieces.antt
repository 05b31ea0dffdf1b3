-- The pieces that a written pattern has, and that they give its elements back.
use Rattle.std.proofs.Common.{◌≡◌, ℕ, suc, ◌+◌, ◌-◌, Bool, true, false, cond, not, ◌&&◌, ◌||◌, List, [], ◌∷◌, ◌++◌, length, replicate, Option, Some, None, refl, sym, ap, ◌∙◌, arith, inl, inr}
use Rattle.std.specs.Prelude.{◌==◌, ◌⊎◌, min}
use Rattle.std.specs.Str.{trim_end}
use Rattle.fluent_grammar.specs.Words.{Text, line_feed, space, spaces, skip_spaces}
use Rattle.fluent_grammar.specs.Tree as t
use Rattle.fluent_grammar.specs.Lines.{Piece, at_line_start, in_line, placed, ends_line, is_blank_text, is_blank, lesser, indent_of, common_indent, dedented, without_blank_end, trimmed_if_last, elements_from, elements_of}
use Rattle.fluent_grammar.specs.Written.{takes_indent, holds_line_feed}
use Rattle.fluent_grammar.proofs.Cases.{cases, and-left, and-right, or-left, or-right}
use Rattle.fluent_grammar.proofs.Got.{either, same}
use Rattle.fluent_grammar.proofs.Taken.{one-plus}
use Rattle.fluent_tidy_laws.specs.WellFormed.{is_line, has_margin, has_no_line}
use Rattle.fluent_tidy_laws.proofs.MovingWords.{skip_spaces-more}
use Rattle.fluent_tidy_laws.proofs.TextParts.{blank-grown}
use Rattle.fluent_grammar.proofs.Blanks.{skip_spaces-other}

-- ---- the pieces of what is written of a pattern, whose lines are indented by this many spaces

-- a text as a piece, within a line or at its start; a text that is a line feed takes no indent
abbrev pub line_piece : Bool → ℕ → Text → Piece
line_piece false n s = in_line s
line_piece true n s = cond (takes_indent s) (at_line_start (n + spaces s) (skip_spaces s)) (at_line_start 0 s)

-- the last text takes the line feed that ends the pattern's last line
abbrev pub with_feed : t.Elements → Text → Text
with_feed t.no_elements s = s ++ line_feed ∷ []
with_feed (t.text x es) s = s
with_feed (t.placeable x es) s = s

abbrev pub behind_text : t.Elements → List Piece → List Piece
behind_text t.no_elements ps = []
behind_text (t.text x es) ps = ps
behind_text (t.placeable x es) ps = ps

abbrev pub pieces_for : Bool → ℕ → t.Elements → List Piece
pieces_for at n t.no_elements = in_line (line_feed ∷ []) ∷ []
pieces_for at n (t.text s es) = line_piece at n (with_feed es s) ∷ behind_text es (pieces_for (ends_line s) n es)
pieces_for at n (t.placeable e es) = placed false e ∷ pieces_for false n es

-- each text is a line
abbrev pub all_lines : t.Elements → Bool
all_lines t.no_elements = true
all_lines (t.text s es) = is_line s && all_lines es
all_lines (t.placeable e es) = all_lines es

-- the last element is a placeable, or a text that comes back when the line feed after it is trimmed
abbrev pub EndsRight : t.Elements → Type 0
EndsRight t.no_elements = Unit {0}
EndsRight (t.text s t.no_elements) = (trim_end (s ++ line_feed ∷ []) ≡ s) × (is_blank_text s ≡ false) × (ends_line s ≡ false)
EndsRight (t.text s (t.text x es)) = EndsRight (t.text x es)
EndsRight (t.text s (t.placeable e es)) = EndsRight (t.placeable e es)
EndsRight (t.placeable e es) = EndsRight es

-- ---- texts

spaces-more : (s : Text) → spaces (s ++ line_feed ∷ []) ≡ spaces s
spaces-more [] = refl
spaces-more (c ∷ cs) = rw (spaces-more cs) refl

pub skip-blank : (s : Text) → is_blank_text (skip_spaces s) ≡ is_blank_text s
skip-blank [] = refl
skip-blank (c ∷ cs) = cases (c == space)
    (λ h. rw (skip_spaces-more c cs h, h) (skip-blank cs))
    (λ h. rw (skip_spaces-other c cs h) refl)

pub spaces-first : (c : ℕ) (s : Text) → (c == space) ≡ true → spaces (c ∷ s) ≡ suc (spaces s)
spaces-first c s h = rw (h, one-plus (spaces s)) refl

pub spaces-none : (c : ℕ) (s : Text) → (c == space) ≡ false → spaces (c ∷ s) ≡ 0
spaces-none c s h = rw h refl

pub margin-text : (s : Text) → replicate (spaces s) space ++ skip_spaces s ≡ s
margin-text [] = refl
margin-text (c ∷ cs) = cases (c == space)
    (λ h. rw (spaces-first c cs h) (ap (λ z. space ∷ z) (margin-text cs) ∙ ap (λ z. z ∷ cs) (sym (same c space h))))
    (λ h. rw (spaces-none c cs h) refl)

-- a line that takes no indent is blank
pub line-blank : (s : Text) → is_line s ≡ true → takes_indent s ≡ false → is_blank_text s ≡ true
line-blank [] h k = refl
line-blank (c ∷ []) h k = let e : (c == line_feed) ≡ true = grind arith in rw (same c line_feed e) refl
line-blank (c ∷ d ∷ ds) h k = absurd (grind arith)

-- ---- indents

line-indent : (n : ℕ) (s : Text) → (takes_indent s ≡ false → is_blank_text s ≡ true) → indent_of (line_piece true n s) ≡ cond (is_blank_text s) None (Some (n + spaces s))
line-indent n s h = cases (takes_indent s)
    (λ k. rw (k, skip-blank s) refl)
    (λ k. rw (k, h k) refl)

-- absent, or this much at least
Least : ℕ → Option ℕ → Type 0
Least n c = (c ≡ None) ⊎ ((m : ℕ) × (c ≡ Some (n + m)))

least-chosen : (n k : ℕ) (b : Bool) (a : Option ℕ) → a ≡ cond b None (Some (n + k)) → Least n a
unfolding Least
least-chosen n k true a e = inl e
least-chosen n k false a e = inr (k, e)

min-more : (n m k : ℕ) → min (n + m) (n + k) ≡ n + min m k
min-more n m k = omega arith

least-lesser : (n : ℕ) (a c : Option ℕ) → Least n a → Least n c → Least n (lesser a c)
unfolding Least
least-lesser n a c (inl e) h = rw e h
least-lesser n a c (inr e) (inl h) = rw (e.1, h) (inr (e.0, refl))
least-lesser n a c (inr e) (inr h) = rw (e.1, h.1) (inr (min e.0 h.0, ap Some (min-more n e.0 h.0)))

least-is : (n : ℕ) (a c : Option ℕ) → a ≡ Some n → Least n c → lesser a c ≡ Some n
unfolding Least
least-is n a c e (inl h) = rw (e, h) refl
least-is n a c e (inr h) = let k : min n (n + h.0) ≡ n = omega arith in rw (e, h.1, k) refl

least-then : (n : ℕ) (a c : Option ℕ) → Least n a → c ≡ Some n → lesser a c ≡ Some n
unfolding Least
least-then n a c (inl h) e = rw (h, e) refl
least-then n a c (inr h) e = let k : min (n + h.0) n ≡ n = omega arith in rw (h.1, e, k) refl

-- of one text
feed-ok : (es : t.Elements) (s : Text) → is_line s ≡ true → takes_indent (with_feed es s) ≡ false → is_blank_text (with_feed es s) ≡ true
feed-ok t.no_elements [] h k = refl
feed-ok t.no_elements (c ∷ cs) h k = blank-grown (c ∷ cs) ∙ line-blank (c ∷ cs) h k
feed-ok (t.text x es) s h k = line-blank s h k
feed-ok (t.placeable x es) s h k = line-blank s h k

feed-blank : (es : t.Elements) (s : Text) → is_blank_text (with_feed es s) ≡ is_blank_text s
feed-blank t.no_elements s = blank-grown s
feed-blank (t.text x es) s = refl
feed-blank (t.placeable x es) s = refl

feed-spaces : (es : t.Elements) (s : Text) → spaces (with_feed es s) ≡ spaces s
feed-spaces t.no_elements s = spaces-more s
feed-spaces (t.text x es) s = refl
feed-spaces (t.placeable x es) s = refl

piece-indent : (at : Bool) (n : ℕ) (es : t.Elements) (s : Text) → is_line s ≡ true → indent_of (line_piece at n (with_feed es s)) ≡ cond (not at || is_blank_text s) None (Some (n + spaces s))
piece-indent false n es s h = refl
piece-indent true n es s h =
    line-indent n (with_feed es s) (feed-ok es s h) ∙ ap (λ b. cond b None (Some (n + spaces (with_feed es s)))) (feed-blank es s) ∙ ap (λ k. cond (is_blank_text s) None (Some (n + k))) (feed-spaces es s)

piece-least : (at : Bool) (n : ℕ) (es : t.Elements) (s : Text) → is_line s ≡ true → Least n (indent_of (line_piece at n (with_feed es s)))
piece-least at n es s h = least-chosen n (spaces s) (not at || is_blank_text s) _ (piece-indent at n es s h)

least-behind : (n : ℕ) (es : t.Elements) (ps : List Piece) → Least n (common_indent ps) → Least n (common_indent (behind_text es ps))
unfolding Least
least-behind n t.no_elements ps h = inl refl
least-behind n (t.text x es) ps h = h
least-behind n (t.placeable x es) ps h = h

least-none : (n : ℕ) → Least n None
unfolding Least
least-none n = inl refl

pieces-least : (es : t.Elements) (at : Bool) (n : ℕ) → all_lines es ≡ true → Least n (common_indent (pieces_for at n es))
pieces-least t.no_elements at n h = least-none n
pieces-least (t.text s es) at n h =
    least-lesser n _ _ (piece-least at n es s (and-left _ _ h)) (least-behind n es _ (pieces-least es (ends_line s) n (and-right _ _ h)))
pieces-least (t.placeable e es) at n h = pieces-least es false n h

-- where some text has no space, the common indent is that of the writing
margin-of : (b c d : Bool) → (b && (not c && d)) ≡ true → ((not b || c) ≡ false) × (d ≡ true)
margin-of true true d h = absurd cc
margin-of true false d h = (refl, h)
margin-of false c d h = absurd cc

margin-piece : (at : Bool) (n : ℕ) (es : t.Elements) (s : Text) → is_line s ≡ true → (at && (not (is_blank_text s) && spaces s == 0)) ≡ true → indent_of (line_piece at n (with_feed es s)) ≡ Some n
margin-piece at n es s h k =
    let m = margin-of at (is_blank_text s) (spaces s == 0) k in
    let z : n + spaces s ≡ n = let e : spaces s ≡ 0 = same (spaces s) 0 m.1 in omega (arith, e) in
    piece-indent at n es s h ∙ ap (λ b. cond b None (Some (n + spaces s))) m.0 ∙ ap Some z

margin-behind : (n : ℕ) (es : t.Elements) (at : Bool) (ps : List Piece) → has_margin at es ≡ true → common_indent ps ≡ Some n → common_indent (behind_text es ps) ≡ Some n
margin-behind n t.no_elements at ps h e = absurd cc
margin-behind n (t.text x es) at ps h e = e
margin-behind n (t.placeable x es) at ps h e = e

pub margin-common : (es : t.Elements) (at : Bool) (n : ℕ) → all_lines es ≡ true → has_margin at es ≡ true → common_indent (pieces_for at n es) ≡ Some n
margin-common t.no_elements at n h k = absurd cc
margin-common (t.text s es) at n h k = elim (either _ _ k) [
  | inl m ↦ least-is n _ _ (margin-piece at n es s (and-left _ _ h) m) (least-behind n es _ (pieces-least es (ends_line s) n (and-right _ _ h)))
  | inr m ↦ least-then n _ _ (piece-least at n es s (and-left _ _ h)) (margin-behind n es (ends_line s) _ m (margin-common es (ends_line s) n (and-right _ _ h) m))
]
margin-common (t.placeable e es) at n h k = margin-common es false n h k

-- where there is no such line, it is absent
none-piece : (b c d : Bool) → (not b || (c && d)) ≡ true → (not b || c) ≡ true
none-piece true c d h = and-left c d h
none-piece false c d h = refl

none-behind : (es : t.Elements) (ps : List Piece) → common_indent ps ≡ None → common_indent (behind_text es ps) ≡ None
none-behind t.no_elements ps e = refl
none-behind (t.text x es) ps e = e
none-behind (t.placeable x es) ps e = e

lesser-none : (a c : Option ℕ) → a ≡ None → c ≡ None → lesser a c ≡ None
lesser-none a c e h = rw (e, h) refl

pub none-common : (es : t.Elements) (at : Bool) (n : ℕ) → all_lines es ≡ true → has_no_line at es ≡ true → common_indent (pieces_for at n es) ≡ None
none-common t.no_elements at n h k = refl
none-common (t.text s es) at n h k =
    lesser-none _ _
    (piece-indent at n es s (and-left _ _ h) ∙ ap (λ b. cond b None (Some (n + spaces s))) (none-piece at (is_blank_text s) (spaces s == 0) (and-left _ _ k)))
    (none-behind es _ (none-common es (ends_line s) n (and-right _ _ h) (and-right _ _ k)))
none-common (t.placeable e es) at n h k = none-common es false n h k

-- ---- the elements that come back

-- the pieces that are kept: without the line feed after a placeable
abbrev pub kept_for : Bool → ℕ → t.Elements → List Piece
kept_for at n t.no_elements = []
kept_for at n (t.text s es) = line_piece at n (with_feed es s) ∷ kept_for (ends_line s) n es
kept_for at n (t.placeable e es) = placed false e ∷ kept_for false n es

kept-behind : (es : t.Elements) (at : Bool) (n : ℕ) → without_blank_end (pieces_for at n es) ≡ kept_for at n es → without_blank_end (behind_text es (pieces_for at n es)) ≡ kept_for at n es
kept-behind t.no_elements at n h = refl
kept-behind (t.text x es) at n h = h
kept-behind (t.placeable x es) at n h = h

-- a text is kept where something that isn't blank is after it, or it isn't blank
Holds : t.Elements → Text → Type 0
Holds t.no_elements s = is_blank_text s ≡ false
Holds (t.text x es) s = Unit {0}
Holds (t.placeable x es) s = Unit {0}

blank-piece : (at : Bool) (n : ℕ) (s : Text) → is_blank (line_piece at n s) ≡ is_blank_text s
blank-piece false n s = refl
blank-piece true n s = by_indent (takes_indent s)
  where
    by_indent : (b : Bool) → is_blank (cond b (at_line_start (n + spaces s) (skip_spaces s)) (at_line_start 0 s)) ≡ is_blank_text s
    by_indent true = skip-blank s
    by_indent false = refl

and_false : (b : Bool) → (b && false) ≡ false
and_false true = refl
and_false false = refl

some-kept : (p : Piece) (ps : List Piece) (q : Piece) (qs : List Piece) → without_blank_end ps ≡ q ∷ qs → without_blank_end (p ∷ ps) ≡ p ∷ (q ∷ qs)
some-kept p ps q qs e =
    let z : (length (q ∷ qs) == 0) ≡ false = grind arith in
    rw (e, z, and_false (is_blank p)) refl

text-kept : (at : Bool) (n : ℕ) (s : Text) (es : t.Elements) (ps : List Piece) → Holds es s → without_blank_end ps ≡ kept_for (ends_line s) n es →
    without_blank_end (line_piece at n (with_feed es s) ∷ ps) ≡ line_piece at n (with_feed es s) ∷ kept_for (ends_line s) n es
unfolding Holds
text-kept at n s t.no_elements ps h e = rw (blank-piece at n (s ++ line_feed ∷ []), blank-grown s, h, e) refl
text-kept at n s (t.text x es) ps h e = some-kept (line_piece at n s) ps _ _ e
text-kept at n s (t.placeable x es) ps h e = some-kept (line_piece at n s) ps _ _ e

holds-of : (s : Text) (es : t.Elements) → EndsRight (t.text s es) → Holds es s
unfolding Holds
holds-of s t.no_elements h = h.1
holds-of s (t.text x es) h = tt
holds-of s (t.placeable x es) h = tt

pub ends-more : (s : Text) (es : t.Elements) → EndsRight (t.text s es) → EndsRight es
ends-more s t.no_elements h = tt
ends-more s (t.text x es) h = h
ends-more s (t.placeable x es) h = h

pub kept-pieces : (es : t.Elements) (at : Bool) (n : ℕ) → EndsRight es → without_blank_end (pieces_for at n es) ≡ kept_for at n es
kept-pieces t.no_elements at n h = refl
kept-pieces (t.text s es) at n h = text-kept at n s es (behind_text es (pieces_for (ends_line s) n es)) (holds-of s es h) (kept-behind es (ends_line s) n (kept-pieces es (ends_line s) n (ends-more s es h)))
kept-pieces (t.placeable e es) at n h = ap (λ z. placed false e ∷ z) (kept-pieces es false n h)

-- the common indent gives a text back
abbrev Fits : Option ℕ → Bool → ℕ → Text → Type 0
Fits c at n s = (c ≡ Some n) ⊎ ((c ≡ None) × (at ≡ true → spaces s ≡ 0))

pub no-spaces : (s : Text) → spaces s ≡ 0 → skip_spaces s ≡ s
no-spaces s e = rw e refl

spaced-back : (c : Option ℕ) (n : ℕ) (s : Text) → Fits c true n s → dedented c (n + spaces s) (skip_spaces s) ≡ s
spaced-back c n s (inl e) = let k : n + spaces s - n ≡ spaces s = omega arith in rw (e, k) (margin-text s)
spaced-back c n s (inr e) = rw e.0 (no-spaces s (e.1 refl))

feed-back : (c : Option ℕ) (n : ℕ) (s : Text) → Fits c true n s → dedented c 0 s ≡ s
feed-back c n s (inl e) = let k : 0 - n ≡ 0 = omega arith in rw (e, k) refl
feed-back c n s (inr e) = rw e.0 refl

line-back : (c : Option ℕ) (at : Bool) (n : ℕ) (s : Text) (ps : List Piece) → Fits c at n s → elements_from c (line_piece at n s ∷ ps) ≡ t.text (trimmed_if_last ps s) (elements_from c ps)
line-back c false n s ps f = refl
line-back c true n s ps f = by_indent (takes_indent s)
  where
    by_indent : (b : Bool) → elements_from c (cond b (at_line_start (n + spaces s) (skip_spaces s)) (at_line_start 0 s) ∷ ps) ≡ t.text (trimmed_if_last ps s) (elements_from c ps)
    by_indent true = ap (λ z. t.text (trimmed_if_last ps z) (elements_from c ps)) (spaced-back c n s f)
    by_indent false = ap (λ z. t.text (trimmed_if_last ps z) (elements_from c ps)) (feed-back c n s f)

feed-trimmed : (s : Text) (es : t.Elements) (at : Bool) (n : ℕ) → EndsRight (t.text s es) → trimmed_if_last (kept_for at n es) (with_feed es s) ≡ s
feed-trimmed s t.no_elements at n h = h.0
feed-trimmed s (t.text x es) at n h = refl
feed-trimmed s (t.placeable x es) at n h = refl

-- the common indent is that of the writing, or there is none and no line begins with a space
abbrev FitsAll : Option ℕ → Bool → ℕ → t.Elements → Type 0
FitsAll c at n es = (c ≡ Some n) ⊎ ((c ≡ None) × (has_no_line at es ≡ true))

no_line-spaces : (at b z : Bool) → (not at || (b && z)) ≡ true → at ≡ true → z ≡ true
no_line-spaces at b z h e = let k : (b && z) ≡ true = rw e at h in and-right b z k

fits-text : (c : Option ℕ) (at : Bool) (n : ℕ) (s : Text) (es : t.Elements) → FitsAll c at n (t.text s es) → Fits c at n (with_feed es s)
fits-text c at n s es (inl e) = inl e
fits-text c at n s es (inr e) = inr (e.0, (λ h. feed-spaces es s ∙ same (spaces s) 0 (no_line-spaces at (is_blank_text s) _ (and-left _ _ e.1) h)))

fits-more : (c : Option ℕ) (at : Bool) (n : ℕ) (s : Text) (es : t.Elements) → FitsAll c at n (t.text s es) → FitsAll c (ends_line s) n es
fits-more c at n s es (inl e) = inl e
fits-more c at n s es (inr e) = inr (e.0, and-right (not at || (is_blank_text s && spaces s == 0)) _ e.1)

kept-back : (es : t.Elements) (c : Option ℕ) (at : Bool) (n : ℕ) → EndsRight es → FitsAll c at n es → elements_from c (kept_for at n es) ≡ es
kept-back t.no_elements c at n h f = refl
kept-back (t.text s es) c at n h f =
    line-back c at n (with_feed es s) (kept_for (ends_line s) n es) (fits-text c at n s es f)
    ∙ ap (λ z. t.text z (elements_from c (kept_for (ends_line s) n es))) (feed-trimmed s es (ends_line s) n h)
    ∙ ap (λ z. t.text s z) (kept-back es c (ends_line s) n (ends-more s es h) (fits-more c at n s es f))
kept-back (t.placeable e es) c at n h f = ap (λ z. t.placeable e z) (kept-back es c false n h f)

-- What is written of a pattern gives its elements back: by its pieces.
pub elements-back : (es : t.Elements) (at : Bool) (n : ℕ) → all_lines es ≡ true → EndsRight es → (has_margin at es ≡ true) ⊎ (has_no_line at es ≡ true) → elements_of (pieces_for at n es) ≡ es
elements-back es at n h k (inl m) =
    ap (elements_from (common_indent (pieces_for at n es))) (kept-pieces es at n k) ∙ kept-back es _ at n k (inl (margin-common es at n h m))
elements-back es at n h k (inr m) =
    ap (elements_from (common_indent (pieces_for at n es))) (kept-pieces es at n k) ∙ kept-back es _ at n k (inr (none-common es at n h m, m))

pub no_feed-ends : (s : Text) → holds_line_feed s ≡ false → ends_line s ≡ false
no_feed-ends [] h = refl
no_feed-ends (c ∷ []) h = or-left (c == line_feed) _ h
no_feed-ends (c ∷ d ∷ ds) h = no_feed-ends (d ∷ ds) (or-right (c == line_feed) _ h)
