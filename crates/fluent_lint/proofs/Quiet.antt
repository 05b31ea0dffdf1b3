-- Sources in which no comment leaves anything out.
use Rattle.std.proofs.Common.{◌≡◌, ◌∙◌, ℕ, ◌+◌, ◌<◌, ◌==◌, Bool, false, true, List, [], ◌∷◌, ◌++◌, Some, None, if◌then◌else◌, length, take, refl, ap, ap₂, sym, arith}
use Rattle.std.proofs.lemmas.List.Splits.{length-slice_split}
use Rattle.std.specs.List.{onto_first}
use Rattle.std.specs.Prelude.{codes}
use Rattle.std.specs.Str.{bytes_eq}
use Rattle.memchr.specs.Find.{FindsNeedle}
use Rattle.fluent_grammar.specs.Words.{Text}
use Rattle.fluent_lint.proofs.Silencing.{by_fronts, without_front}
use Rattle.fluent_lint.specs.Silence.{after_line, lines, of_silencing, silences, silences_from, silencing}
use Rattle.lint_findings.specs.Typing.{from_text}
use Rattle.lint_texts.proofs.FoundTexts.{nowhere_is}

-- what each of these comments has
abbrev pub ignore : Text
ignore = codes "lint-ignore:"

-- ---- the first line of a text

abbrev is_end : ℕ → Bool
is_end byte = byte == 10

abbrev first : List Text → Text
first [] = []
first (l ∷ ls) = l

abbrev after_first : Text → Text
after_first [] = []
after_first (c ∷ s) = if is_end c then c ∷ s else after_first s

longer : (c : ℕ) (s : Text) (ls : List Text) (b : Bool) → 0 < length ls → s ≡ first ls ++ after_first s
    → c ∷ s ≡ first (if b then [] ∷ ls else onto_first c ls) ++ (if b then c ∷ s else after_first s)
longer c s ls true some same = refl
longer c s [] false some same = absurd (omega (arith, some))
longer c s (l ∷ ls) false some same = ap (λ x. c ∷ x) same

begins_with_line : (s : Text) → s ≡ first (lines s) ++ after_first s
begins_with_line [] = refl
begins_with_line (c ∷ s) = longer c s (lines s) (is_end c) (omega (arith, length-slice_split is_end s)) (begins_with_line s)

-- ---- a line without such a comment

passed : (c : ℕ) (s : Text) (b : Bool) → (if b then Some (c ∷ s) else from_text ignore s) ≡ None → from_text ignore s ≡ None
passed c s true none = let clash : Some (c ∷ s) ≡ None = none in absurd cc
passed c s false none = none

lacks_later : (c : ℕ) (s : Text) → from_text ignore (c ∷ s) ≡ None → from_text ignore s ≡ None
lacks_later c s none = passed c s (bytes_eq (take 12 (c ∷ s)) ignore) none

not_here : (s : Text) → from_text ignore (ignore ++ s) ≡ None → ⊥
not_here s none = let clash : Some (ignore ++ s) ≡ None = none in absurd cc

-- not after some signs
lacks_after : (signs s : Text) → from_text ignore (signs ++ (ignore ++ s)) ≡ None → ⊥
lacks_after [] s none = not_here s none
lacks_after (c ∷ signs) s none = lacks_after signs s (lacks_later c (signs ++ (ignore ++ s)) none)

module _ (s line more : Text) (begins : s ≡ line ++ more) (none : from_text ignore s ≡ None) where
  -- the line doesn't go on with it after some signs
  lacks : (signs rest : Text) → line ++ more ≡ signs ++ (ignore ++ (rest ++ more)) → ⊥
  lacks signs rest is = lacks_after signs (rest ++ more) (ap (from_text ignore) (sym (begins ∙ is)) ∙ none)

  first_is_quiet : None ≡ silencing line
  first_is_quiet =
      by_fronts line None None None
      (without_front (codes "# lint-ignore:") line (λ rest is. lacks (codes "# ") rest (ap (λ x. x ++ more) is)))
      (without_front (codes "## lint-ignore:") line (λ rest is. lacks (codes "## ") rest (ap (λ x. x ++ more) is)))
      (without_front (codes "### lint-ignore:") line (λ rest is. lacks (codes "### ") rest (ap (λ x. x ++ more) is)))

-- ---- all lines

abbrev AreQuiet : List Text → Type 0
AreQuiet [] = Unit {0}
AreQuiet (l ∷ ls) = (None ≡ silencing l) × AreQuiet ls

joined : (c : ℕ) (ls : List Text) (b : Bool) → AreQuiet ls → None ≡ silencing (first (if b then [] ∷ ls else onto_first c ls))
    → AreQuiet (if b then [] ∷ ls else onto_first c ls)
joined c ls true quiet head = (head, quiet)
joined c [] false quiet head = (head, quiet)
joined c (l ∷ ls) false quiet head = (head, quiet.1)

lines_are_quiet : (s : Text) → from_text ignore s ≡ None → AreQuiet (lines s)
lines_are_quiet [] none = (first_is_quiet [] [] [] refl none, cc)
lines_are_quiet (c ∷ s) none =
    joined c (lines s) (is_end c) (lines_are_quiet s (lacks_later c s none))
    (first_is_quiet (c ∷ s) (first (lines (c ∷ s))) (after_first (c ∷ s)) (begins_with_line (c ∷ s)) none)

none_from : (end at : ℕ) (ls : List Text) → AreQuiet ls → silences_from end at ls ≡ []
none_from end at [] quiet = refl
none_from end at (l ∷ ls) quiet =
    ap₂ (λ x y. of_silencing end at (after_line at l) ls x ++ y) (sym quiet.0) (none_from end (after_line at l) ls quiet.1)

-- of a source in which the words of such a comment are nowhere
pub no_silences : (s : Text) → FindsNeedle s ignore 0 None → silences s ≡ []
no_silences s none = none_from (length s + 1) 0 (lines s) (lines_are_quiet s (nowhere_is ignore s none))
