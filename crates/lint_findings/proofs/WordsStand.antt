-- A word that is found in a pattern stands there, and so does each text that a pattern may be as a whole.
use Rattle.std.proofs.Common.{◌≡◌, ◌∙◌, ℕ, zero, suc, arith, Bool, true, false, not, ◌&&◌, ◌||◌, List, [], ◌∷◌, ◌++◌, length, take, drop, refl, sym, ap, subst, append-nil, take-append-drop, Contains, ◌⊎◌, ⊎_elim}
use Rattle.std.specs.Cmp.Lexicographic.{same_text}
use Rattle.std.specs.Str.{bytes_eq}
use Rattle.std.proofs.lemmas.Bool.{false≢true}
use Rattle.std.proofs.lemmas.List.Elements.{Contains-append_cases}
use Rattle.std.proofs.lemmas.List.Folds.{Any-from_list_any}
use Rattle.fluent_grammar.proofs.Cases.{and-left, and-right}
use Rattle.fluent_grammar.specs.Words.{Text}
use Rattle.fluent_grammar.specs.Tree as t
use Rattle.fluent_grammar.specs.Tree.{Elements, Expression, Variants, Inline}
use Rattle.lint_findings.specs.Comparison.{message_patterns}
use Rattle.lint_findings.specs.Losses.{message_has}
use Rattle.lint_findings.specs.LossLaws.{HasText, here, past_text, past_placeable, in_variant, VariantsHaveText, in_this, in_later, MessageHasText}
use Rattle.lint_findings.specs.WrittenTexts.{is_word_at, no_letter_at, letter_after, has_word, has_word_after, elements_have, expression_has, variants_have, plain_texts, variants_texts}
use Rattle.lint_findings.proofs.MissingVariables.{either}

-- ---- words in texts

-- a text is what stands before a word, the word, and what follows it
abbrev StandsIn : Text → Text → Type 0
StandsIn w s = (pre : Text) × (post : Text) × (s ≡ pre ++ (w ++ post))

at_front : (w s : Text) → is_word_at w s ≡ true → StandsIn w s
at_front w s h =
    let same : take (length w) s ≡ w = same_text (take (length w) s) w (sym (and-left (bytes_eq (take (length w) s) w) (no_letter_at (drop (length w) s)) h)) in
    ([], drop (length w) s, sym (take-append-drop (length w) s) ∙ ap (λ z. z ++ drop (length w) s) same)

stands : (before : Bool) (w s : Text) → has_word_after before w s ≡ true → StandsIn w s
stands before w [] h = absurd (false≢true h)
stands before w (c ∷ s) h =
    either (not before && is_word_at w (c ∷ s)) (has_word_after (letter_after before c) w s) h
    (λ k. at_front w (c ∷ s) (and-right (not before) (is_word_at w (c ∷ s)) k))
    (λ k. let rest = stands (letter_after before c) w s k in (c ∷ rest.0, rest.1, ap (λ z. c ∷ z) rest.2))

-- ---- in patterns

in_text : (w s : Text) (es : Elements) → has_word w s ≡ true → HasText (t.text s es) w
in_text w s es h = let found = stands false w s h in subst (λ z. HasText (t.text z es) w) (sym found.2) (here found.0 found.1)

mutual
  pub pattern_has : (w : Text) (es : Elements) → elements_have w es ≡ true → HasText es w
  pattern_has w t.no_elements h = absurd (false≢true h)
  pattern_has w (t.text s es) h = either (has_word w s) (elements_have w es) h (in_text w s es) (λ k. past_text (pattern_has w es k))
  pattern_has w (t.placeable (t.select i vs) es) h =
      either (variants_have w vs) (elements_have w es) h (λ k. in_variant (variants_text w vs k)) (λ k. past_placeable (pattern_has w es k))
  pattern_has w (t.placeable (t.inline i) es) h = past_placeable (pattern_has w es h)

  variants_text : (w : Text) (vs : Variants) → variants_have w vs ≡ true → VariantsHaveText vs w
  variants_text w t.no_variants h = absurd (false≢true h)
  variants_text w (t.variant k es d vs) h =
      either (elements_have w es) (variants_have w vs) h (λ e. in_this (pattern_has w es e)) (λ e. in_later (variants_text w vs e))

pub message_text : (m : t.Message) (s : Text) → message_has m s ≡ true → MessageHasText m s
message_text m s h =
    let at = Any-from_list_any (elements_have s) (message_patterns m) h in
    (at.1, (at.0, at.2, at.3), pattern_has s at.1 at.4)

-- ---- texts of a whole pattern

pub none_there : {P : Type 0} {A : Type 0} (x : A) → Contains [] x → P
none_there x h = absurd (omega (arith, h.1))

only_one : {A : Type 0} (x y : A) → Contains (x ∷ []) y → x ≡ y
only_one x y (zero, lt, e) = e
only_one x y (suc n, lt, e) = absurd (omega (arith, lt))

whole : (s : Text) → HasText (t.text s t.no_elements) s
whole s = subst (λ z. HasText (t.text z t.no_elements) s) (append-nil s) (here [] [])

mutual
  pub plain_there : (es : Elements) (s : Text) → Contains (plain_texts es) s → HasText es s
  plain_there t.no_elements s h = none_there s h
  plain_there (t.text x t.no_elements) s h = subst (HasText (t.text x t.no_elements)) (only_one x s h) (whole x)
  plain_there (t.text x (t.text y es)) s h = none_there s h
  plain_there (t.text x (t.placeable e es)) s h = none_there s h
  plain_there (t.placeable (t.select i vs) t.no_elements) s h = in_variant (variants_there vs s h)
  plain_there (t.placeable (t.select i vs) (t.text y es)) s h = none_there s h
  plain_there (t.placeable (t.select i vs) (t.placeable e es)) s h = none_there s h
  plain_there (t.placeable (t.inline i) es) s h = none_there s h

  variants_there : (vs : Variants) (s : Text) → Contains (variants_texts vs) s → VariantsHaveText vs s
  variants_there t.no_variants s h = none_there s h
  variants_there (t.variant k es d vs) s h =
      ⊎_elim (λ mine. in_this (plain_there es s mine)) (λ others. in_later (variants_there vs s others)) (Contains-append_cases (plain_texts es) (variants_texts vs) s h)
