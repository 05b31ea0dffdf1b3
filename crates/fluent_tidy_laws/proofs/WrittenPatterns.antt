-- What is written of a well-formed pattern spells it, before any place where a pattern is over.
use Rattle.std.proofs.Common.{◌≡◌, ℕ, suc, ◌*◌, ◌<◌, Bool, true, false, ◌&&◌, List, [], ◌∷◌, ◌++◌, None, refl, sym, ap, ◌∙◌, arith, inr, append_assoc}
use Rattle.std.specs.Prelude.{◌==◌, ◌≢◌}
use Rattle.fluent_grammar.specs.Words.{Text, line_feed, carriage_return, space, dot, open_brace, begins, begins_with, spaces, skip_spaces, skip_blank_block, after_line_end}
use Rattle.fluent_grammar.specs.Tree as t
use Rattle.fluent_grammar.specs.Blanks.{no_lines}
use Rattle.fluent_grammar.specs.Lines.{is_blank_text, ends_behind_spaces}
use Rattle.fluent_grammar.specs.Spelling.{SpellsPattern, on_the_line, on_the_next}
use Rattle.fluent_grammar.specs.Written as w
use Rattle.fluent_grammar.specs.Written.{Sign, sign, laid_out, new_line, indent, takes_indent, holds_line_feed, elements_signs, placeable_signs, pattern_signs, pattern_start, is_many_lined, is_select, begins_with_dot}
use Rattle.fluent_grammar.proofs.Blanks.{block-skipped, skip_spaces-spaced, skip_spaces-other, not-false}
use Rattle.fluent_grammar.proofs.Cases.{cases, and-left, and-right, or-left, or-right}
use Rattle.fluent_grammar.proofs.Got.{same, either}
use Rattle.fluent_tidy_laws.specs.WellFormed.{is_line, may_start, are_lines, are_texts, has_margin, has_no_line, first_is_not_blank, begins_flush, EndsWell}
use Rattle.fluent_tidy_laws.proofs.WrittenSoFar.{WellFormedPattern, WellFormedElements}
use Rattle.fluent_tidy_laws.proofs.MovingWords.{Over, skip_spaces-more}
use Rattle.fluent_tidy_laws.proofs.MovingPatterns.{line-at, pieces-at}
use Rattle.fluent_tidy_laws.proofs.WrittenInline.{SelectsAreWritten}
use Rattle.fluent_tidy_laws.proofs.WrittenPieces.{EndsRight, all_lines, elements-back, line-blank, skip-blank, spaces-first, no_feed-ends}
use Rattle.fluent_tidy_laws.proofs.WrittenLines.{lines-written, from-line, from-piece, line-parts, placeable-indent, placeable-brace, bare-begins, line-bare, line-first, no_return-crlf, starts}

-- ---- what is said of patterns, in parts

lines-all : (behind at : Bool) (es : t.Elements) → are_lines behind at es ≡ true → all_lines es ≡ true
lines-all behind at t.no_elements h = refl
lines-all behind at (t.text s es) h = let p = line-parts behind at s es h in both (is_line s) _ p.line (lines-all _ _ es p.others)
  where
    both : (a b : Bool) → a ≡ true → b ≡ true → (a && b) ≡ true
    both a b h k = rw (h, k) refl
lines-all behind at (t.placeable x es) h = lines-all false false es h

ends-right : (es : t.Elements) → EndsWell es → EndsRight es
ends-right t.no_elements h = absurd h
ends-right (t.text s t.no_elements) h = h
ends-right (t.text s (t.text x es)) h = ends-right (t.text x es) h
ends-right (t.text s (t.placeable x es)) h = ends-right (t.placeable x es) h
ends-right (t.placeable x t.no_elements) h = tt
ends-right (t.placeable x (t.text s es)) h = ends-right (t.text s es) h
ends-right (t.placeable x (t.placeable y es)) h = ends-right (t.placeable y es) h

pub ends-some : (es : t.Elements) → EndsWell es → es ≢ t.no_elements
ends-some t.no_elements h e = absurd h
ends-some (t.text s es) h e = absurd cc
ends-some (t.placeable x es) h e = absurd cc

-- on one line no text stands at a line's start
one-line : (es : t.Elements) → is_many_lined es ≡ false → has_no_line false es ≡ true
one-line t.no_elements h = refl
one-line (t.text s es) h = rw (no_feed-ends s (or-left (holds_line_feed s) _ h)) (one-line es (or-right (holds_line_feed s) _ h))
one-line (t.placeable x es) h = one-line es (or-right (is_select x) _ h)

-- ---- the first element

line-no_feed : (s : Text) → is_line s ≡ true → is_blank_text s ≡ false → begins_with line_feed s ≡ false
line-no_feed [] h k = refl
line-no_feed (c ∷ []) h k = grind arith
line-no_feed (c ∷ d ∷ ds) h k = grind arith

takes : (s : Text) → is_line s ≡ true → is_blank_text s ≡ false → takes_indent s ≡ true
takes s h k = cases (takes_indent s) (λ e. e) (λ e. absurd (let m : is_blank_text s ≡ true = line-blank s h e in cc))

no_end-first : (s : Text) → begins_with line_feed s ≡ false → begins_with carriage_return s ≡ false → after_line_end s ≡ None
no_end-first s h k = rw (h, no_return-crlf s k) refl

brace-no_end : (s x : Text) → s ≡ open_brace ∷ x → after_line_end (skip_spaces s) ≡ None
brace-no_end s x e = rw e refl

-- no line end is after the spaces of a line that isn't blank
shown : (s x : Text) → is_line s ≡ true → (is_blank_text s ≡ false) → skip_spaces s ≢ [] → after_line_end (skip_spaces (s ++ x)) ≡ None
shown s x h b k =
    let l = line-bare s h in
    let f : begins_with line_feed (skip_spaces s) ≡ false = line-no_feed (skip_spaces s) l (skip-blank s ∙ b) in
    no_end-first (skip_spaces (s ++ x)) (bare-begins (λ c. c == line_feed) s x k ∙ f) (bare-begins (λ c. c == carriage_return) s x k ∙ (line-first (skip_spaces s) l).1)

block-none : (s : Text) → after_line_end (skip_spaces s) ≡ None → skip_blank_block s ≡ s
block-none s h = block-skipped [] s s (record { split = refl; lines = no_lines; longest = h })

nonblank-starts : (s : Text) → is_blank_text s ≡ false → skip_spaces s ≢ []
nonblank-starts s h k = let m : is_blank_text (skip_spaces s) ≡ true = ap is_blank_text k in let n : is_blank_text (skip_spaces s) ≡ false = skip-blank s ∙ h in absurd cc

-- a pattern that doesn't begin with a dot
dot-first : (s : Text) → is_blank_text s ≡ false → may_start s ≡ true → begins_with dot s ≡ false
dot-first [] h k = refl
dot-first (c ∷ cs) h k = cases (c == dot)
    (λ e. absurd (let m : begins ends_behind_spaces (skip_spaces (c ∷ cs)) ≡ false = (starts (c ∷ cs) k).1 in let o : (c == space) ≡ false = grind arith in
    let q : begins ends_behind_spaces (skip_spaces (c ∷ cs)) ≡ true = ap (begins ends_behind_spaces) (skip_spaces-other c cs o) ∙ rw (same c dot e) refl in cc))
    (λ e. e)

no_dot : (es : t.Elements) → first_is_not_blank es ≡ true → are_lines false true es ≡ true → begins_with_dot es ≡ false
no_dot t.no_elements h l = refl
no_dot (t.text s es) h l = let p = line-parts false true s es l in dot-first s (not-false _ h) (p.may refl)
no_dot (t.placeable x es) h l = refl

module _ (selects : SelectsAreWritten) (level : ℕ) (deep : 0 < 4 * level) (behind : List Sign) (over : Over (laid_out true behind)) where
  abbrev signs_of : t.Elements → List Sign
  signs_of es = elements_signs level es ++ new_line ∷ behind

  -- the first line of a pattern in lines isn't blank
  first-shown : (es : t.Elements) → first_is_not_blank es ≡ true → are_lines false true es ≡ true → after_line_end (skip_spaces (laid_out true (signs_of es))) ≡ None
  first-shown t.no_elements h l = absurd cc
  first-shown (t.text s es) h l =
      let p = line-parts false true s es l in
      let b = not-false _ h in
      rw (takes s p.line b) (ap after_line_end (skip_spaces-spaced (4 * level) (s ++ laid_out (w.ends_line true s) (signs_of es))) ∙ shown s _ p.line b (nonblank-starts s b))
  first-shown (t.placeable x es) h l =
      let a = placeable-brace selects x level (signs_of es) in
      ap (λ z. after_line_end (skip_spaces (laid_out true z))) (append_assoc (placeable_signs level x) (elements_signs level es) (new_line ∷ behind))
      ∙ ap (λ z. after_line_end (skip_spaces z)) (placeable-indent selects x level (signs_of es))
      ∙ ap after_line_end (skip_spaces-spaced (4 * level) (laid_out false (placeable_signs level x ++ signs_of es)))
      ∙ brace-no_end _ a.0 a.1

  next-written : (es : t.Elements) → are_texts true es ≡ true → EndsWell es → WellFormedElements es → SpellsPattern es (line_feed ∷ laid_out true (signs_of es)) (laid_out true behind)
  next-written es h e f =
      let first = and-left (first_is_not_blank es) _ h in
      let more = and-right (first_is_not_blank es) _ h in
      let lines = and-left (are_lines false true es) _ more in
      let d = from-line (lines-written selects level deep behind over es true false lines (ends-right es e) f (λ k. ends-some es e)) in
      let margin = either (has_margin true es) (has_no_line true es) (and-right (are_lines false true es) _ more) in
      on_the_next refl (line-at (block-none (laid_out true (signs_of es)) (first-shown es first lines)) d)
      (sym (elements-back es true (4 * level) (lines-all false true es lines) (ends-right es e) margin))

  -- on one line: what follows the space
  flush-first : (es : t.Elements) → first_is_not_blank es ≡ true → are_lines false false es ≡ true → begins_flush es ≡ true → (skip_spaces (laid_out false (signs_of es)) ≡ laid_out false (signs_of es)) × (after_line_end (laid_out false (signs_of es)) ≡ None)
  flush-first t.no_elements h l k = absurd cc
  flush-first (t.text s es) h l k =
      let p = line-parts false false s es l in
      let b = not-false _ h in
      let z = flush-text s (laid_out (w.ends_line false s) (signs_of es)) b k in
      (z, ap after_line_end (sym z) ∙ shown s _ p.line b (nonblank-starts s b))
    where
      flush-text : (s x : Text) → is_blank_text s ≡ false → (spaces s == 0) ≡ true → skip_spaces (s ++ x) ≡ s ++ x
      flush-text [] x b k = absurd cc
      flush-text (c ∷ cs) x b k = cases (c == space)
          (λ e. absurd (let m : spaces (c ∷ cs) ≡ suc (spaces cs) = spaces-first c cs e in let n : spaces (c ∷ cs) ≡ 0 = same (spaces (c ∷ cs)) 0 k in omega (arith, m, n)))
          (λ e. skip_spaces-other c (cs ++ x) e)
  flush-first (t.placeable x es) h l k =
      let a = placeable-brace selects x level (signs_of es) in
      let e : laid_out false (signs_of (t.placeable x es)) ≡ open_brace ∷ a.0 = ap (laid_out false) (append_assoc (placeable_signs level x) (elements_signs level es) (new_line ∷ behind)) ∙ a.1 in
      (rw e refl, rw e refl)

  line-written : (es : t.Elements) → is_many_lined es ≡ false → are_texts false es ≡ true → EndsWell es → WellFormedElements es → SpellsPattern es (space ∷ laid_out false (signs_of es)) (laid_out true behind)
  line-written es m h e f =
      let first = and-left (first_is_not_blank es) _ h in
      let more = and-right (first_is_not_blank es) _ h in
      let lines = and-left (are_lines false false es) _ more in
      let flush = flush-first es first lines (and-right (are_lines false false es) _ more) in
      let skipped : skip_spaces (space ∷ laid_out false (signs_of es)) ≡ laid_out false (signs_of es) = skip_spaces-more space (laid_out false (signs_of es)) refl ∙ flush.0 in
      let d = from-piece (lines-written selects level deep behind over es false false lines (ends-right es e) f (λ k. absurd cc)) in
      on_the_line (ap after_line_end skipped ∙ flush.1) (pieces-at skipped d)
      (sym (elements-back es false (4 * level) (lines-all false false es lines) (ends-right es e) (inr (one-line es m))))

  by-lines : (es : t.Elements) (b : Bool) → is_many_lined es ≡ b → are_texts b es ≡ true → EndsWell es → WellFormedElements es →
      SpellsPattern es (laid_out false (pattern_start level es ∷ signs_of es)) (laid_out true behind)
  by-lines es true m h e f =
      let first = and-left (first_is_not_blank es) _ h in
      let lines = and-left (are_lines false true es) _ (and-right (first_is_not_blank es) _ h) in
      rw (m, no_dot es first lines) (next-written es h e f)
  by-lines es false m h e f = rw m (line-written es m h e f)

  -- A well-formed pattern is spelled by what is written of it, with the line feed after it.
  pub pattern-written : (es : t.Elements) → WellFormedPattern es → SpellsPattern es (laid_out false (pattern_signs level es ++ new_line ∷ behind)) (laid_out true behind)
  pattern-written es f = by-lines es (is_many_lined es) refl f.0 f.1 f.2
