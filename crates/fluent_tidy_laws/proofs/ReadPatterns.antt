-- The pieces of an unmarked pattern without a shape give a well-formed pattern.
use Rattle.std.proofs.Common.{◌≡◌, ℕ, Bool, true, false, cond, not, ◌&&◌, ◌||◌, List, [], ◌∷◌, ◌++◌, length, Option, Some, None, refl, sym, ap, ◌∙◌, arith, inl, inr, subst}
use Rattle.std.specs.Prelude.{◌==◌, ◌≢◌}
use Rattle.std.specs.List.{list_all}
use Rattle.fluent_grammar.specs.Words.{Text, dot, open_bracket, asterisk, begins, spaces, skip_spaces}
use Rattle.fluent_grammar.specs.Tree as t
use Rattle.fluent_grammar.specs.Lines.{Piece, at_line_start, in_line, placed, ends_line, is_blank_text, is_blank, indent_of, common_indent, dedented, without_blank_end, trimmed_if_last, elements_from, elements_of, ends_behind_spaces}
use Rattle.fluent_grammar.specs.LineLaws.{Tells, first_tells, later_tells, IsLeastIndent}
use Rattle.fluent_grammar.specs.Written.{is_many_lined}
use Rattle.fluent_grammar.proofs.Cases.{and-left, and-right, or-left, or-right}
use Rattle.fluent_grammar.proofs.Got.{either, same}
use Rattle.fluent_grammar.proofs.LineLaws.{common_indent_is_least, blank_end_is_cut}
use Rattle.fluent_tidy_laws.specs.Shapes.{begins_badly, ends_empty, pattern_shaped}
use Rattle.fluent_tidy_laws.specs.WellFormed.{is_line, may_start, has_margin, has_no_line, are_lines, first_is_not_blank, begins_flush, are_texts, WellFormedPattern}
use Rattle.fluent_tidy_laws.proofs.ReadLines.{Lined, text-left, dedented-fit, dedented-blank, part-fit, lines-of, ends-of, placed-of, margin-of, no_line-of}
use Rattle.fluent_tidy_laws.proofs.WrittenPieces.{no-spaces, no_feed-ends}

-- ---- the pieces that are kept

lined-front : (ks ds : List Piece) (behind at : Bool) → Lined behind at (ks ++ ds) → Lined behind at ks
lined-front [] ds behind at l = tt
lined-front (at_line_start n s ∷ ks) ds behind at l = (l.0, l.1, l.2, lined-front ks ds _ _ l.3)
lined-front (in_line s ∷ ks) ds behind at l = (l.0, l.1, l.2, lined-front ks ds _ _ l.3)
lined-front (placed z e ∷ ks) ds behind at l = (l.0, l.1, lined-front ks ds _ _ l.2)

tells-front : (n : ℕ) (ks ds : List Piece) → Tells n ks → Tells n (ks ++ ds)
tells-front n [] ds d = elim d [ ]
tells-front n (p ∷ ks) ds (first_tells e) = first_tells e
tells-front n (p ∷ ks) ds (later_tells d) = later_tells (tells-front n ks ds d)

blank-silent : (n : ℕ) (p : Piece) → is_blank p ≡ true → indent_of p ≡ Some n → ⊥
blank-silent n (at_line_start m s) b e = by (is_blank_text s) b e
  where
    by : (x : Bool) → x ≡ true → cond x None (Some m) ≡ Some n → ⊥
    by true b e = cc
    by false b e = cc
blank-silent n (in_line s) b e = cc
blank-silent n (placed z x) b e = cc

blank-none : (n : ℕ) (ds : List Piece) → list_all is_blank ds ≡ true → Tells n ds → ⊥
blank-none n [] b d = elim d [ ]
blank-none n (p ∷ ds) b (first_tells e) = blank-silent n p (and-left _ _ b) e
blank-none n (p ∷ ds) b (later_tells d) = blank-none n ds (and-right _ _ b) d

tells-kept : (n : ℕ) (ks ds : List Piece) → list_all is_blank ds ≡ true → Tells n (ks ++ ds) → Tells n ks
tells-kept n [] ds b d = absurd (blank-none n ds b d)
tells-kept n (p ∷ ks) ds b (first_tells e) = first_tells e
tells-kept n (p ∷ ks) ds b (later_tells d) = later_tells (tells-kept n ks ds b d)

-- ---- a margin, or no line

or-left_true : (a b : Bool) → a ≡ true → (a || b) ≡ true
or-left_true a b h = rw h refl

or-right_true : (a b : Bool) → b ≡ true → (a || b) ≡ true
or-right_true true b h = refl
or-right_true false b h = h

margins-of : (c : Option ℕ) (ps ks ds : List Piece) (at behind : Bool) → IsLeastIndent c ps → ps ≡ ks ++ ds → list_all is_blank ds ≡ true → Lined behind at ks →
    ends_empty (elements_from c ks) ≡ false → (has_margin at (elements_from c ks) || has_no_line at (elements_from c ks)) ≡ true
margins-of None ps ks ds at behind least e b l h =
    or-right_true _ _ (no_line-of ks behind at (λ n d. let k : Tells n (ks ++ ds) = tells-front n ks ds d in least n (rw e k)) l h)
margins-of (Some n) ps ks ds at behind least e b l h =
    let d : Tells n (ks ++ ds) = rw e at (least.0) in
    or-left_true _ _ (margin-of n ks behind at (tells-kept n ks ds b d) l h)

-- ---- the first text

-- The first piece, where it is a text: it isn't blank; and within a line it begins without a space.
abbrev pub Shows : List Piece → Type 0
Shows [] = Unit {0}
Shows (at_line_start n s ∷ ps) = is_blank_text s ≡ false
Shows (in_line s ∷ ps) = (is_blank_text s ≡ false) × (spaces s ≡ 0)
Shows (placed z e ∷ ps) = Unit {0}

shows-front : (ks ds : List Piece) → Shows (ks ++ ds) → Shows ks
shows-front [] ds h = tt
shows-front (at_line_start n s ∷ ks) ds h = h
shows-front (in_line s ∷ ks) ds h = h
shows-front (placed z e ∷ ks) ds h = h

not-blank : (c : Option ℕ) (ks : List Piece) (behind at : Bool) → Lined behind at ks → Shows ks → ends_empty (elements_from c ks) ≡ false → ks ≢ [] → first_is_not_blank (elements_from c ks) ≡ true
not-blank c [] behind at l f h some = absurd (some refl)
not-blank c (at_line_start n s ∷ ps) behind at l f h some =
    let x = text-left c ps (dedented c n s) (dedented-fit c n s l.2) h in
    let e : is_blank_text (trimmed_if_last ps (dedented c n s)) ≡ false = x.blank ∙ dedented-blank c n s ∙ f in
    rw e refl
not-blank c (in_line s ∷ ps) behind at l f h some =
    let x = text-left c ps s (part-fit s l.2) h in
    let e : is_blank_text (trimmed_if_last ps s) ≡ false = x.blank ∙ f.0 in
    rw e refl
not-blank c (placed z e ∷ ps) behind at l f h some = refl

-- from within a line on, the first text is flush
flush-of : (c : Option ℕ) (ks : List Piece) → Lined false false ks → Shows ks → ends_empty (elements_from c ks) ≡ false → begins_flush (elements_from c ks) ≡ true
flush-of c [] l f h = refl
flush-of c (at_line_start n s ∷ ps) l f h = absurd cc
flush-of c (in_line s ∷ ps) l f h =
    let x = text-left c ps s (part-fit s l.2) h in
    let e : spaces (trimmed_if_last ps s) ≡ 0 = x.margin ∙ f.1 in
    rw e refl
flush-of c (placed z e ∷ ps) l f h = refl

-- ---- many lines or one

-- a first text that may stand at a line start may stand within a line
lines-within : (b : Bool) (es : t.Elements) → are_lines b true es ≡ true → are_lines b false es ≡ true
lines-within b t.no_elements h = refl
lines-within b (t.text s es) h = by (not b) (is_line s) (not (length s == 0)) (may_start s) _ h
  where
    by : (a c d e f : Bool) → ((a && (c && (d && e))) && f) ≡ true → ((a && (c && (d && true))) && f) ≡ true
    by true true true e f h = and-right e f h
    by true true false e f h = absurd cc
    by true false d e f h = absurd cc
    by false c d e f h = absurd cc
lines-within b (t.placeable e es) h = h

no-margin : (es : t.Elements) → is_many_lined es ≡ false → has_margin false es ≡ false
no-margin t.no_elements h = refl
no-margin (t.text s es) h = rw (no_feed-ends s (or-left _ _ h)) (no-margin es (or-right _ _ h))
no-margin (t.placeable e es) h = no-margin es (or-right _ _ h)

one-of : (a z m : Bool) → ((true && (a && z)) || m) ≡ true → m ≡ false → z ≡ true
one-of a true m h k = refl
one-of true false m h k = absurd cc
one-of false false m h k = absurd cc

flush-margin : (es : t.Elements) → is_many_lined es ≡ false → (has_margin true es || has_no_line true es) ≡ true → begins_flush es ≡ true
flush-margin t.no_elements h m = refl
flush-margin (t.text s es) h m = elim (either _ _ m) [
  | inl k ↦ one-of (not (is_blank_text s)) (spaces s == 0) (has_margin (ends_line s) es) k (ap (λ b. has_margin b es) (no_feed-ends s (or-left _ _ h)) ∙ no-margin es (or-right _ _ h))
  | inr k ↦ and-right (is_blank_text s) _ (and-left _ _ k)
]
flush-margin (t.placeable e es) h m = refl

-- a first text within a line that doesn't begin badly may stand at a line start
goes-on : (s : Text) → is_line s ≡ true → begins (λ c. c == dot || (c == open_bracket || c == asterisk)) s ≡ false → begins ends_behind_spaces s ≡ false
goes-on [] l h = refl
goes-on (c ∷ []) l h = grind arith
goes-on (c ∷ d ∷ ds) l h = grind arith

and-four : (a b c d : Bool) → ((a && (b && (c && true))) && d) ≡ true → (a ≡ true) × (b ≡ true) × (c ≡ true) × (d ≡ true)
and-four true true true d h = (refl, refl, refl, h)
and-four true true false d h = absurd cc
and-four true false c d h = absurd cc
and-four false b c d h = absurd cc

lines-start : (es : t.Elements) → is_many_lined es ≡ true → begins_badly es ≡ false → first_is_not_blank es ≡ true → begins_flush es ≡ true → are_lines false false es ≡ true → are_lines false true es ≡ true
lines-start t.no_elements m b f z h = refl
lines-start (t.text s es) m b f z h =
    let a = and-four true (is_line s) (not (length s == 0)) _ h in
    let n : begins (λ c. c == dot || (c == open_bracket || c == asterisk)) s ≡ false = rw m at b in
    let g : begins ends_behind_spaces s ≡ false = goes-on s a.1 n in
    let k : begins ends_behind_spaces (skip_spaces s) ≡ false = ap (begins ends_behind_spaces) (no-spaces s (same (spaces s) 0 z)) ∙ g in
    let w : is_blank_text s ≡ false = not-true (is_blank_text s) f in
    rw (a.1, a.2, w, k) (a.3)
  where
    not-true : (x : Bool) → not x ≡ true → x ≡ false
    not-true true h = absurd cc
    not-true false h = refl
lines-start (t.placeable e es) m b f z h = h

margins-start : (es : t.Elements) → first_is_not_blank es ≡ true → begins_flush es ≡ true → (has_margin false es || has_no_line false es) ≡ true → (has_margin true es || has_no_line true es) ≡ true
margins-start t.no_elements f z h = refl
margins-start (t.text s es) f z h = rw (f, z) refl
margins-start (t.placeable e es) f z h = h

-- ---- the pattern

and-three : (a b c : Bool) → a ≡ true → b ≡ true → c ≡ true → (a && (b && c)) ≡ true
and-three a b c h k m = rw (h, k, m) refl

texts-next : (es : t.Elements) → first_is_not_blank es ≡ true → are_lines false true es ≡ true → (has_margin true es || has_no_line true es) ≡ true → are_texts (is_many_lined es) es ≡ true
texts-next es f l m = by (is_many_lined es) refl
  where
    by : (b : Bool) → is_many_lined es ≡ b → are_texts b es ≡ true
    by true e = and-three _ _ _ f l m
    by false e = and-three _ _ _ f (lines-within false es l) (flush-margin es e m)

texts-line : (es : t.Elements) → begins_badly es ≡ false → first_is_not_blank es ≡ true → begins_flush es ≡ true → are_lines false false es ≡ true → (has_margin false es || has_no_line false es) ≡ true →
    are_texts (is_many_lined es) es ≡ true
texts-line es b f z l m = by (is_many_lined es) refl
  where
    by : (x : Bool) → is_many_lined es ≡ x → are_texts x es ≡ true
    by true e = and-three _ _ _ f (lines-start es e b f z l) (margins-start es f z m)
    by false e = and-three _ _ _ f l z

texts-of : (at : Bool) (c : Option ℕ) (ks : List Piece) → Lined false at ks → Shows ks → ks ≢ [] → pattern_shaped (elements_from c ks) ≡ false →
    (has_margin at (elements_from c ks) || has_no_line at (elements_from c ks)) ≡ true → are_texts (is_many_lined (elements_from c ks)) (elements_from c ks) ≡ true
texts-of true c ks l f some h m =
    let e = or-left _ _ (or-right (begins_badly (elements_from c ks)) _ h) in
    texts-next (elements_from c ks) (not-blank c ks false true l f e some) (lines-of c ks false true l e) m
texts-of false c ks l f some h m =
    let e = or-left _ _ (or-right (begins_badly (elements_from c ks)) _ h) in
    texts-line (elements_from c ks) (or-left _ _ h) (not-blank c ks false false l f e some) (flush-of c ks l f e) (lines-of c ks false false l e) m

kept-well_formed : (at : Bool) (c : Option ℕ) (ps ks ds : List Piece) → IsLeastIndent c ps → ps ≡ ks ++ ds → list_all is_blank ds ≡ true → Lined false at ks → Shows ks →
    elements_from c ks ≢ t.no_elements → pattern_shaped (elements_from c ks) ≡ false → WellFormedPattern (elements_from c ks)
kept-well_formed at c ps ks ds least e b l f some h =
    let n = or-left _ _ (or-right (begins_badly (elements_from c ks)) _ h) in
    let k : ks ≢ [] = λ z. some (ap (elements_from c) z) in
    (texts-of at c ks l f k h (margins-of c ps ks ds at false least e b l n), ends-of c ks false at l n k, placed-of c ks false at l (or-right _ _ (or-right (begins_badly (elements_from c ks)) _ h)))

-- The pieces of an unmarked pattern without a shape give a well-formed one.
pub pattern-well_formed : (at : Bool) (ps : List Piece) (es : t.Elements) → es ≡ elements_of ps → Lined false at ps → Shows ps → es ≢ t.no_elements → pattern_shaped es ≡ false → WellFormedPattern es
pattern-well_formed at ps es e l f some h =
    let d = blank_end_is_cut ps in
    let l2 : Lined false at (without_blank_end ps ++ d.dropped) = subst (Lined false at) d.split l in
    let f2 : Shows (without_blank_end ps ++ d.dropped) = subst Shows d.split f in
    subst WellFormedPattern (sym e)
    (kept-well_formed at (common_indent ps) ps (without_blank_end ps) d.dropped (common_indent_is_least ps) d.split d.blank (lined-front _ _ false at l2) (shows-front _ _ f2)
    (λ z. some (e ∙ z)) (ap pattern_shaped (sym e) ∙ h))
