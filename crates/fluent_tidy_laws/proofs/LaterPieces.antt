-- Pieces that end later: blank pieces follow, and the last text may have a line feed more. They give the same elements.
use Rattle.std.proofs.Common.{◌≡◌, ℕ, suc, Bool, true, false, ◌&&◌, cond, List, [], ◌∷◌, ◌++◌, length, replicate, Option, Some, None, refl, sym, ap, ◌∙◌, arith, append_assoc}
use Rattle.std.specs.Prelude.{◌==◌, ◌-◌}
use Rattle.std.specs.Str.{trim_end}
use Rattle.fluent_grammar.specs.Words.{Text, space, line_feed}
use Rattle.fluent_grammar.specs.Tree.{placeable}
use Rattle.fluent_grammar.specs.Lines.{Piece, at_line_start, in_line, placed, is_blank, lesser, indent_of, common_indent, dedented, without_blank_end, trimmed_if_last, elements_from, elements_of}
use Rattle.fluent_tidy_laws.proofs.TextEnds.{Trims}
use Rattle.fluent_tidy_laws.proofs.TextParts.{blank-grown}

-- blank pieces, each a line feed
pub data Blanks : List Piece → Type 0 where
  no_blanks : Blanks []
  blank_line : {qs : List Piece} (n : ℕ) → Blanks qs → Blanks (at_line_start n (line_feed ∷ []) ∷ qs)
  blank_end : {qs : List Piece} → Blanks qs → Blanks (in_line (line_feed ∷ []) ∷ qs)

-- a text with a line feed more
pub data Grown : Piece → Piece → Type 0 where
  grown_start : {s : Text} (n : ℕ) → Trims s → Grown (at_line_start n s) (at_line_start n (s ++ line_feed ∷ []))
  grown_in : {s : Text} → Trims s → Grown (in_line s) (in_line (s ++ line_feed ∷ []))

pub data Later : List Piece → List Piece → Type 0 where
  behind : {qs : List Piece} → Blanks qs → Later [] qs
  alike : {ps qs : List Piece} (p : Piece) → Later ps qs → Later (p ∷ ps) (p ∷ qs)
  grown : {p p' : Piece} {qs : List Piece} → Grown p p' → Blanks qs → Later (p ∷ []) (p' ∷ qs)

-- ---- the common indent

blanks-indent : {qs : List Piece} → Blanks qs → common_indent qs ≡ None
blanks-indent no_blanks = refl
blanks-indent (blank_line n b) = blanks-indent b
blanks-indent (blank_end b) = blanks-indent b

grown-blank : {p p' : Piece} → Grown p p' → is_blank p' ≡ is_blank p
grown-blank (grown_start {s} n h) = blank-grown s
grown-blank (grown_in {s} h) = blank-grown s

grown-indent : {p p' : Piece} → Grown p p' → indent_of p' ≡ indent_of p
grown-indent (grown_start {s} n h) = rw (blank-grown s) refl
grown-indent (grown_in h) = refl

later-indent : {ps qs : List Piece} → Later ps qs → common_indent qs ≡ common_indent ps
later-indent (behind b) = blanks-indent b
later-indent (alike p h) = ap (lesser (indent_of p)) (later-indent h)
later-indent (grown {p} g b) = rw (grown-indent g, blanks-indent b) refl

-- ---- the elements

blanks-cut : {qs : List Piece} → Blanks qs → without_blank_end qs ≡ []
blanks-cut no_blanks = refl
blanks-cut (blank_line n b) = rw (blanks-cut b) refl
blanks-cut (blank_end b) = rw (blanks-cut b) refl

-- as many pieces, with the same elements
record AsElements (common : Option ℕ) (one other : List Piece) : Type 0 where
  elements : elements_from common one ≡ elements_from common other
  count : length one ≡ length other

trimmed-same : (one other : List Piece) (s : Text) → length one ≡ length other → trimmed_if_last one s ≡ trimmed_if_last other s
trimmed-same [] [] s h = refl
trimmed-same [] (q ∷ qs) s h = absurd (omega (arith, h))
trimmed-same (p ∷ ps) [] s h = absurd (omega (arith, h))
trimmed-same (p ∷ ps) (q ∷ qs) s h = refl

more-elements : {common : Option ℕ} {one other : List Piece} (p : Piece) → AsElements common one other → AsElements common (p ∷ one) (p ∷ other)
more-elements {common} {one} {other} (at_line_start n s) a = record {
  elements = rw (trimmed-same one other (dedented common n s) a.count, a.elements) refl;
  count = ap suc a.count;
}
more-elements {common} {one} {other} (in_line s) a = record {
  elements = rw (trimmed-same one other s a.count, a.elements) refl;
  count = ap suc a.count;
}
more-elements (placed z e) a = record { elements = ap (placeable e) a.elements; count = ap suc a.count }

cut-elements : {common : Option ℕ} {one other : List Piece} (p : Piece) (b : Bool) → AsElements common one other → AsElements common (cond b [] (p ∷ one)) (cond b [] (p ∷ other))
cut-elements p true a = record { elements = refl; count = refl }
cut-elements p false a = more-elements p a

counted : {common : Option ℕ} {one other : List Piece} (p : Piece) → AsElements common one other →
    AsElements common (cond (is_blank p && length one == 0) [] (p ∷ one)) (cond (is_blank p && length other == 0) [] (p ∷ other))
counted {one = one} p a = rw (← a.count) (cut-elements p (is_blank p && length one == 0) a)

kept-trimmed : (s : Text) (common : Option ℕ) (n : ℕ) → Trims s → trim_end (dedented common n (s ++ line_feed ∷ [])) ≡ trim_end (dedented common n s)
kept-trimmed s None n h = h 0
kept-trimmed s (Some common) n h = ap trim_end (sym (append_assoc (replicate (n - common) space) s (line_feed ∷ []))) ∙ h (n - common)

grown-elements : {common : Option ℕ} {p p' : Piece} → Grown p p' → AsElements common (p' ∷ []) (p ∷ [])
grown-elements {common} (grown_start {s} n h) = record { elements = rw (kept-trimmed s common n h) refl; count = refl }
grown-elements (grown_in h) = record { elements = rw (h 0) refl; count = refl }

grown-cut : {common : Option ℕ} {p p' : Piece} (b : Bool) → Grown p p' → AsElements common (cond b [] (p' ∷ [])) (cond b [] (p ∷ []))
grown-cut true g = record { elements = refl; count = refl }
grown-cut false g = grown-elements g

later-elements : {common : Option ℕ} {ps qs : List Piece} → Later ps qs → AsElements common (without_blank_end qs) (without_blank_end ps)
later-elements (behind b) = rw (blanks-cut b) (record { elements = refl; count = refl })
later-elements (alike p h) = counted p (later-elements h)
later-elements (grown {p} {p'} g b) = rw (blanks-cut b, grown-blank g) (grown-cut (is_blank p && true) g)

pub later-same : {ps qs : List Piece} → Later ps qs → elements_of qs ≡ elements_of ps
later-same {ps} {qs} h = ap (λ c. elements_from c (without_blank_end qs)) (later-indent h) ∙ (later-elements h).elements
