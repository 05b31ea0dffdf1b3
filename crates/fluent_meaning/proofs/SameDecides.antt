-- The test by which two patterns are the same holds exactly where they are equal.
use Rattle.std.proofs.Common.{◌≡◌, Bool, false, refl, sym, ◌∙◌, Decides}
use Rattle.std.specs.Prelude.{◌&&◌}
use Rattle.std.proofs.lemmas.Bool.{false≢true}
use Rattle.std.proofs.lemmas.Bool.Decides.{Decides-and}
use Rattle.std.proofs.lemmas.Slice.Eq.{bytes_eq-Decides}
use Rattle.fluent_grammar.specs.Tree as t
use Rattle.fluent_grammar.specs.Tree.{Elements, no_elements, text, placeable, Expression, select, inline, Variants, no_variants, variant, Inline, Arguments, arguments, Inlines, no_inlines, positional, Nameds, no_nameds, named, VariantKey, identifier_key, number_key, MaybeArguments, no_arguments, with_arguments}
use Rattle.std.specs.Str.{bytes_eq}
use Rattle.fluent_value.proofs.Decided.{option-decides, bool-decides}
use Rattle.fluent_meaning.specs.Same.{same_key, same_elements, same_expression, same_variants, same_inline, same_maybe, same_arguments, same_inlines, same_nameds}

-- a test that fails decides what can't be
apart : {P : Type 0} (b : Bool) → b ≡ false → (P → ⊥) → Decides b P
apart b fails never = (λ holds. absurd (false≢true (sym fails ∙ holds)), λ p. absurd (never p))

-- one part, and two parts, of something
by_one : {P R : Type 0} (a : Bool) → Decides a P → (P → R) → (R → P) → Decides a R
by_one a d to from = (λ holds. to (d.0 holds), λ r. d.1 (from r))

by_two : {P Q R : Type 0} (a b : Bool) → Decides a P → Decides b Q → (P → Q → R) → (R → P) → (R → Q) → Decides (a && b) R
by_two a b d e to first second = let both = Decides-and a b d e in (λ holds. let p = both.0 holds in to p.0 p.1, λ r. both.1 (first r, second r))

pub key-decides : (a b : VariantKey) → Decides (same_key a b) (a ≡ b)
key-decides (identifier_key s) (identifier_key x) = by_one _ (bytes_eq-Decides s x) (λ p. cc) (λ h. cc)
key-decides (identifier_key s) (number_key x) = apart _ refl (λ h. cc)
key-decides (number_key s) (identifier_key x) = apart _ refl (λ h. cc)
key-decides (number_key s) (number_key x) = by_one _ (bytes_eq-Decides s x) (λ p. cc) (λ h. cc)

mutual
  unfolding same_elements same_expression same_variants same_inline same_maybe same_arguments same_inlines same_nameds

  pub elements-decides : (es fs : Elements) → Decides (same_elements es fs) (es ≡ fs)
  elements-decides no_elements no_elements = (λ _. refl, λ _. refl)
  elements-decides (text s es) (text x xs) = by_two _ _ (bytes_eq-Decides s x) (elements-decides es xs) (λ p q. cc) (λ h. cc) (λ h. cc)
  elements-decides (placeable e es) (placeable x xs) = by_two _ _ (expression-decides e x) (elements-decides es xs) (λ p q. cc) (λ h. cc) (λ h. cc)
  elements-decides _ _ = apart _ refl (λ h. cc)

  pub expression-decides : (e f : Expression) → Decides (same_expression e f) (e ≡ f)
  expression-decides (inline i) (inline j) = by_one _ (inline-decides i j) (λ p. cc) (λ h. cc)
  expression-decides (select i vs) (select j ws) = by_two _ _ (inline-decides i j) (variants-decides vs ws) (λ p q. cc) (λ h. cc) (λ h. cc)
  expression-decides _ _ = apart _ refl (λ h. cc)

  pub variants-decides : (vs ws : Variants) → Decides (same_variants vs ws) (vs ≡ ws)
  variants-decides no_variants no_variants = (λ _. refl, λ _. refl)
  variants-decides (variant k es d vs) (variant l fs e ws) =
      by_two _ _ (key-decides k l) (Decides-and _ _ (elements-decides es fs) (Decides-and _ _ (bool-decides d e) (variants-decides vs ws)))
      (λ p q. let a = q.0 in let b = q.1.0 in let c = q.1.1 in cc) (λ h. cc) (λ h. (cc, (cc, cc)))
  variants-decides _ _ = apart _ refl (λ h. cc)

  pub inline-decides : (i j : Inline) → Decides (same_inline i j) (i ≡ j)
  inline-decides (t.string_literal s) (t.string_literal x) = by_one _ (bytes_eq-Decides s x) (λ p. cc) (λ h. cc)
  inline-decides (t.number_literal s) (t.number_literal x) = by_one _ (bytes_eq-Decides s x) (λ p. cc) (λ h. cc)
  inline-decides (t.function_reference s a) (t.function_reference x b) = by_two _ _ (bytes_eq-Decides s x) (arguments-decides a b) (λ p q. cc) (λ h. cc) (λ h. cc)
  inline-decides (t.message_reference s a) (t.message_reference x b) = by_two _ _ (bytes_eq-Decides s x) (option-decides bytes_eq bytes_eq-Decides a b) (λ p q. cc) (λ h. cc) (λ h. cc)
  inline-decides (t.term_reference s a c) (t.term_reference x b d) =
      by_two _ _ (bytes_eq-Decides s x) (Decides-and _ _ (option-decides bytes_eq bytes_eq-Decides a b) (maybe-decides c d))
      (λ p q. let a = q.0 in let b = q.1 in cc) (λ h. cc) (λ h. (cc, cc))
  inline-decides (t.variable_reference s) (t.variable_reference x) = by_one _ (bytes_eq-Decides s x) (λ p. cc) (λ h. cc)
  inline-decides (t.nested e) (t.nested f) = by_one _ (expression-decides e f) (λ p. cc) (λ h. cc)
  inline-decides _ _ = apart _ refl (λ h. cc)

  pub maybe-decides : (a b : MaybeArguments) → Decides (same_maybe a b) (a ≡ b)
  maybe-decides no_arguments no_arguments = (λ _. refl, λ _. refl)
  maybe-decides (with_arguments a) (with_arguments b) = by_one _ (arguments-decides a b) (λ p. cc) (λ h. cc)
  maybe-decides _ _ = apart _ refl (λ h. cc)

  pub arguments-decides : (a b : Arguments) → Decides (same_arguments a b) (a ≡ b)
  arguments-decides (arguments ps ns) (arguments qs ms) = by_two _ _ (inlines-decides ps qs) (nameds-decides ns ms) (λ p q. cc) (λ h. cc) (λ h. cc)

  pub inlines-decides : (ps qs : Inlines) → Decides (same_inlines ps qs) (ps ≡ qs)
  inlines-decides no_inlines no_inlines = (λ _. refl, λ _. refl)
  inlines-decides (positional e ps) (positional f qs) = by_two _ _ (inline-decides e f) (inlines-decides ps qs) (λ p q. cc) (λ h. cc) (λ h. cc)
  inlines-decides _ _ = apart _ refl (λ h. cc)

  pub nameds-decides : (ns ms : Nameds) → Decides (same_nameds ns ms) (ns ≡ ms)
  nameds-decides no_nameds no_nameds = (λ _. refl, λ _. refl)
  nameds-decides (named x e ns) (named y f ms) =
      by_two _ _ (bytes_eq-Decides x y) (Decides-and _ _ (inline-decides e f) (nameds-decides ns ms))
      (λ p q. let a = q.0 in let b = q.1 in cc) (λ h. cc) (λ h. (cc, cc))
  nameds-decides _ _ = apart _ refl (λ h. cc)
