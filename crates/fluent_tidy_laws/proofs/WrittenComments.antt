-- What is written of a well-formed comment spells it, before any rest that doesn't begin with its sign.
use Rattle.std.proofs.Common.{◌≡◌, ℕ, suc, true, false, not, ◌||◌, List, [], ◌∷◌, ◌++◌, length, drop, refl, sym, ap, ◌∙◌, arith, append_assoc}
use Rattle.std.specs.Prelude.{◌==◌}
use Rattle.std.specs.List.{list_all}
use Rattle.std.specs.Str.{trim_end}
use Rattle.fluent_grammar.specs.Words.{Text, line_feed, carriage_return, space, number_sign, begins, begins_entry, begins_with, comment_level}
use Rattle.fluent_grammar.specs.Lexical.{SpellsLineEnd, lf, crlf, SpellsRestOfLine, line_ends, line_byte}
use Rattle.fluent_grammar.specs.Spelling.{empty_line, some_line, SpellsCommentLine, SpellsCommentLines, no_more_lines, one_more_line, SpellsComment, some_lines}
use Rattle.fluent_grammar.specs.Written.{Sign, sign, laid_out, ends_line, new_line, comment_text_signs, comment_signs}
use Rattle.fluent_grammar.proofs.Cases.{cases, and-left, and-right}
use Rattle.fluent_tidy_laws.specs.Shapes.{is_white_line}
use Rattle.fluent_tidy_laws.specs.WellFormed.{is_comment_line, WellFormedComment}
use Rattle.fluent_tidy_laws.proofs.WrittenInline.{within}
use Rattle.fluent_grammar.proofs.Blanks.{not-false}
use Rattle.fluent_tidy_laws.proofs.MovingComments.{content-at}

-- ---- signs

-- a comment's sign, of this many number signs and one
pub record Marks (k : ℕ) (marks : Text) : Type 0 where
  pub flat : (more : List Sign) → laid_out true (sign 0 marks ∷ more) ≡ marks ++ laid_out false more
  pub start : (more : List Sign) → laid_out false (sign 0 marks ∷ more) ≡ laid_out true (sign 0 marks ∷ more)
  pub at_space : (s : Text) → comment_level (marks ++ space ∷ s) ≡ suc k
  pub at_feed : (s : Text) → comment_level (marks ++ line_feed ∷ s) ≡ suc k
  pub behind : (s : Text) → drop (suc k) (marks ++ s) ≡ s
  pub first : (s : Text) → begins begins_entry (marks ++ s) ≡ true

pub one_mark : Marks 0 (number_sign ∷ [])
one_mark = record { flat = λ more. refl; start = λ more. refl; at_space = λ s. refl; at_feed = λ s. refl; behind = λ s. refl; first = λ s. refl }

pub two_marks : Marks 1 (number_sign ∷ number_sign ∷ [])
two_marks = record { flat = λ more. refl; start = λ more. refl; at_space = λ s. refl; at_feed = λ s. refl; behind = λ s. refl; first = λ s. refl }

pub three_marks : Marks 2 (number_sign ∷ number_sign ∷ number_sign ∷ [])
three_marks = record { flat = λ more. refl; start = λ more. refl; at_space = λ s. refl; at_feed = λ s. refl; behind = λ s. refl; first = λ s. refl }

no-level : (s : Text) (k : ℕ) → begins_with number_sign s ≡ false → comment_level s ≡ suc k → ⊥
no-level [] k h e = absurd cc
no-level (c ∷ cs) k h e = let z : 0 ≡ suc k = rw h at e in absurd cc

-- ---- a line

-- bytes of a comment's line
abbrev IsPlain : Text → Type 0
IsPlain s = list_all (λ c. not (c == line_feed || c == carriage_return)) s ≡ true

plain-line : (s : Text) → IsPlain s → ends_line false s ≡ false
plain-line [] h = refl
plain-line (c ∷ cs) h =
    let k : (c == line_feed) ≡ false = grind arith in
    let m : IsPlain cs = grind arith in
    rw k (plain-line cs m)

no-end : (c : ℕ) (s m : Text) → (c == line_feed) ≡ false → (c == carriage_return) ≡ false → SpellsLineEnd (c ∷ s) m → ⊥
no-end c s m h k (lf) = absurd cc
no-end c s m h k (crlf) = absurd cc

rest-written : (line rest : Text) → IsPlain line → SpellsRestOfLine line (line ++ line_feed ∷ rest) rest
rest-written [] rest h = line_ends lf
rest-written (c ∷ cs) rest h =
    let k : (c == line_feed) ≡ false = grind arith in
    let l : (c == carriage_return) ≡ false = grind arith in
    let m : IsPlain cs = grind arith in
    line_byte (λ z d. no-end c _ z k l d) (rest-written cs rest m)

line-is : {level : ℕ} {lines : List Text} {s u rest : Text} → s ≡ u → SpellsCommentLine level lines u rest → SpellsCommentLine level lines s rest
line-is h d = rw h d

no-text : (line : Text) → is_white_line line ≡ false → (length (trim_end line) == 0) ≡ true → line ≡ []
no-text [] h e = refl
no-text (c ∷ cs) h e = absurd (let k : true ≡ false = sym e ∙ h in cc)

module _ (k : ℕ) (marks : Text) (m : Marks k marks) where
  empty-written : (rest : Text) → SpellsCommentLine (suc k) ([] ∷ []) (marks ++ line_feed ∷ rest) rest
  empty-written rest = record { sign = m.at_feed rest; content = content-at (m.behind (line_feed ∷ rest)) (empty_line lf) }

  text-written : (line rest : Text) → IsPlain line → SpellsCommentLine (suc k) (line ∷ []) (marks ++ space ∷ (line ++ line_feed ∷ rest)) rest
  text-written line rest h = record { sign = m.at_space _; content = content-at (m.behind (space ∷ (line ++ line_feed ∷ rest))) (some_line (rest-written line rest h)) }

  -- a line with its sign, before what is laid out after it
  abbrev line_signs : Text → List Sign → List Sign
  line_signs line behind = sign 0 marks ∷ ((comment_text_signs line ++ new_line ∷ []) ++ behind)

  empty-at : (line : Text) (behind : List Sign) → (length (trim_end line) == 0) ≡ true → laid_out true (line_signs line behind) ≡ marks ++ line_feed ∷ laid_out true behind
  empty-at line behind e = rw e (m.flat (new_line ∷ behind))

  text-at : (line : Text) (behind : List Sign) → IsPlain line → (length (trim_end line) == 0) ≡ false → laid_out true (line_signs line behind) ≡ marks ++ space ∷ (line ++ line_feed ∷ laid_out true behind)
  text-at line behind h e = rw e (m.flat (sign 0 (space ∷ []) ∷ sign 0 line ∷ new_line ∷ behind) ∙ ap (λ z. marks ++ space ∷ z) (within 0 line (new_line ∷ behind) (plain-line line h)))

  empty-is : {s rest : Text} (line : Text) → line ≡ [] → SpellsCommentLine (suc k) ([] ∷ []) s rest → SpellsCommentLine (suc k) (line ∷ []) s rest
  empty-is line e d = rw e d

  line-written : (line : Text) (behind : List Sign) → is_comment_line line ≡ true → SpellsCommentLine (suc k) (line ∷ []) (laid_out true (line_signs line behind)) (laid_out true behind)
  line-written line behind f =
      let plain = and-left (list_all (λ c. not (c == line_feed || c == carriage_return)) line) _ f in
      let white = not-false _ (and-right (list_all (λ c. not (c == line_feed || c == carriage_return)) line) _ f) in
      cases (length (trim_end line) == 0)
      (λ e. line-is (empty-at line behind e) (empty-is line (no-text line white e) (empty-written (laid_out true behind))))
      (λ e. line-is (text-at line behind plain e) (text-written line (laid_out true behind) plain))

  -- ---- lines

  lines-is : {lines : List Text} {s u rest : Text} → s ≡ u → SpellsCommentLines (suc k) lines u rest → SpellsCommentLines (suc k) lines s rest
  lines-is h d = rw h d

  first-line : (line : Text) (lines : List Text) (behind : List Sign) → comment_signs marks (line ∷ lines) ++ behind ≡ line_signs line (comment_signs marks lines ++ behind)
  first-line line lines behind = ap (λ z. sign 0 marks ∷ z) (append_assoc (comment_text_signs line ++ new_line ∷ []) (comment_signs marks lines) behind)

  first-written : (line : Text) (lines : List Text) (behind : List Sign) → is_comment_line line ≡ true →
      SpellsCommentLine (suc k) (line ∷ []) (laid_out true (comment_signs marks (line ∷ lines) ++ behind)) (laid_out true (comment_signs marks lines ++ behind))
  first-written line lines behind f = line-is (ap (laid_out true) (first-line line lines behind)) (line-written line (comment_signs marks lines ++ behind) f)

  lines-written : (lines : List Text) (behind : List Sign) → list_all is_comment_line lines ≡ true → begins_with number_sign (laid_out true behind) ≡ false →
      SpellsCommentLines (suc k) lines (laid_out true (comment_signs marks lines ++ behind)) (laid_out true behind)
  lines-written [] behind f h = no_more_lines (λ lines rest d. no-level (laid_out true behind) k h d.sign)
  lines-written (line ∷ lines) behind f h =
      let first = and-left (is_comment_line line) _ f in
      let more = and-right (is_comment_line line) _ f in
      one_more_line (first-written line lines behind first) (lines-written lines behind more h)

  -- A well-formed comment is spelled by what is written of it.
  pub comment-written : (lines : List Text) (behind : List Sign) → WellFormedComment lines → begins_with number_sign (laid_out true behind) ≡ false →
      SpellsComment (suc k) lines (laid_out true (comment_signs marks lines ++ behind)) (laid_out true behind)
  comment-written [] behind f h = absurd (f.0 refl)
  comment-written (line ∷ lines) behind f h =
      let first = and-left (is_comment_line line) _ f.1 in
      let more = and-right (is_comment_line line) _ f.1 in
      some_lines (first-written line lines behind first) (lines-written lines behind more h)

  pub comment-first : (lines : List Text) (behind : List Sign) → WellFormedComment lines → begins begins_entry (laid_out true (comment_signs marks lines ++ behind)) ≡ true
  comment-first [] behind f = absurd (f.0 refl)
  comment-first (line ∷ lines) behind f = ap (begins begins_entry) (m.flat (((comment_text_signs line ++ new_line ∷ []) ++ comment_signs marks lines) ++ behind)) ∙ m.first _

  -- what was written before makes no difference
  pub comment-start : (lines : List Text) (behind : List Sign) → WellFormedComment lines → laid_out false (comment_signs marks lines ++ behind) ≡ laid_out true (comment_signs marks lines ++ behind)
  comment-start [] behind f = absurd (f.0 refl)
  comment-start (line ∷ lines) behind f = m.start (((comment_text_signs line ++ new_line ∷ []) ++ comment_signs marks lines) ++ behind)
