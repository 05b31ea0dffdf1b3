-- What is computed of the variables that a pattern shows is so: those that it always shows, and those that it doesn't.
use Rattle.std.proofs.Common.{◌≡◌, ◌∙◌, Bool, true, false, not, ◌&&◌, ◌||◌, refl, sym, ap, subst}
use Rattle.std.specs.Cmp.Lexicographic.{same_text}
use Rattle.std.specs.Str.{bytes_eq}
use Rattle.std.proofs.lemmas.Bool.{false≢true}
use Rattle.std.proofs.lemmas.Cmp.{nat_list_eq_equiv}
use Rattle.fluent_grammar.proofs.Cases.{and-left, and-right}
use Rattle.fluent_grammar.specs.Words.{Text}
use Rattle.fluent_grammar.specs.Tree as t
use Rattle.fluent_grammar.specs.Tree.{Elements, Expression, Variants, Inline, Inlines, Arguments}
use Rattle.lint_findings.specs.FactLaws as f
use Rattle.lint_findings.specs.FactLaws.{Shows, ExpressionShows, VariantsShow, InlineShows, InlinesShow}
use Rattle.lint_findings.specs.LossLaws as l
use Rattle.lint_findings.specs.LossLaws.{AlwaysShows, ExpressionAlwaysShows, AllShow, InlineAlwaysShows, ArgumentsShow}
use Rattle.lint_findings.specs.Shown.{elements_show, expression_shows, variants_show, inline_shows, arguments_show, inlines_show, elements_always_show, expression_always_shows, variants_always_show, inline_always_shows}
use Rattle.lint_findings.proofs.MissingVariables.{either, same_variable, inlines_shown}

or_true : (a : Bool) → (a || true) ≡ true
or_true true = refl
or_true false = refl

first_holds : {a : Bool} (b : Bool) → a ≡ true → (a || b) ≡ true
first_holds b h = ap (λ a. a || b) h

second_holds : (a : Bool) {b : Bool} → b ≡ true → (a || b) ≡ true
second_holds a h = ap (λ b. a || b) h ∙ or_true a

-- ---- what is shown is computed

mutual
  pattern_computed : {es : Elements} {x : Text} → Shows es x → elements_show x es ≡ true
  pattern_computed (f.in_placeable {e} {es} {x} h) = first_holds (elements_show x es) (expression_computed h)
  pattern_computed (f.after_placeable {e} {es} {x} h) = second_holds (expression_shows x e) (pattern_computed h)
  pattern_computed (f.after_text h) = pattern_computed h

  expression_computed : {e : Expression} {x : Text} → ExpressionShows e x → expression_shows x e ≡ true
  expression_computed (f.in_variant h) = variants_computed h
  expression_computed (f.in_inline h) = inline_computed h

  variants_computed : {vs : Variants} {x : Text} → VariantsShow vs x → variants_show x vs ≡ true
  variants_computed (f.in_this {k} {es} {d} {vs} {x} h) = first_holds (variants_show x vs) (pattern_computed h)
  variants_computed (f.in_later {k} {es} {d} {vs} {x} h) = second_holds (elements_show x es) (variants_computed h)

  inline_computed : {i : Inline} {x : Text} → InlineShows i x → inline_shows x i ≡ true
  inline_computed (f.itself {x}) = nat_list_eq_equiv.refl x
  inline_computed (f.in_nested h) = expression_computed h
  inline_computed (f.given_to h) = inlines_computed h

  inlines_computed : {ps : Inlines} {x : Text} → InlinesShow ps x → inlines_show x ps ≡ true
  inlines_computed (f.first {i} {ps} {x} h) = first_holds (inlines_show x ps) (inline_computed h)
  inlines_computed (f.next {i} {ps} {x} h) = second_holds (inline_shows x i) (inlines_computed h)

-- a pattern of which it is computed that it doesn't show a variable doesn't
pub never_shown : (es : Elements) (x : Text) → not (elements_show x es) ≡ true → Shows es x → ⊥
never_shown es x hidden shown = false≢true (sym (ap not (pattern_computed shown)) ∙ hidden)

-- ---- what is computed is always shown

arguments_shown : (x : Text) (a : Arguments) → arguments_show x a ≡ true → ArgumentsShow a x
arguments_shown x (t.arguments ps ns) h = l.positional (inlines_shown x ps h)

mutual
  pub always_shown : (x : Text) (es : Elements) → elements_always_show x es ≡ true → AlwaysShows es x
  always_shown x t.no_elements h = absurd (false≢true h)
  always_shown x (t.text s es) h = l.after_text (always_shown x es h)
  always_shown x (t.placeable e es) h =
      either (expression_always_shows x e) (elements_always_show x es) h (λ k. l.in_placeable (expression_always_shown x e k)) (λ k. l.after_placeable (always_shown x es k))

  expression_always_shown : (x : Text) (e : Expression) → expression_always_shows x e ≡ true → ExpressionAlwaysShows e x
  expression_always_shown x (t.select i vs) h = l.in_variants (all_shown x vs h)
  expression_always_shown x (t.inline i) h = l.in_inline (inline_always_shown x i h)

  all_shown : (x : Text) (vs : Variants) → variants_always_show x vs ≡ true → AllShow vs x
  all_shown x t.no_variants h = l.no_more
  all_shown x (t.variant k es d vs) h =
      l.this_and (always_shown x es (and-left (elements_always_show x es) (variants_always_show x vs) h)) (all_shown x vs (and-right (elements_always_show x es) (variants_always_show x vs) h))

  inline_always_shown : (x : Text) (i : Inline) → inline_always_shows x i ≡ true → InlineAlwaysShows i x
  inline_always_shown x (t.string_literal s) h = absurd (false≢true h)
  inline_always_shown x (t.number_literal s) h = absurd (false≢true h)
  inline_always_shown x (t.function_reference id a) h = l.given_to (arguments_shown x a h)
  inline_always_shown x (t.message_reference id a) h = absurd (false≢true h)
  inline_always_shown x (t.term_reference id a c) h = absurd (false≢true h)
  inline_always_shown x (t.variable_reference y) h = subst (λ z. InlineAlwaysShows (t.variable_reference y) z) (sym (same_variable x y h)) l.itself
  inline_always_shown x (t.nested e) h = l.in_nested (expression_always_shown x e h)
