-- How it is handed on that what is resolved nests too deep.
use Rattle.std.proofs.Common.{◌≡◌, ◌∙◌, ℕ, ◌+◌, ◌-◌, ◌<◌, Bool, true, false, cond, List, [], ◌∷◌, ◌++◌, Option, None, Some, ap, arith, subst, sym}
use Rattle.std.proofs.lemmas.Bool.{false≢true}
use Rattle.fluent_ast.specs.View.{Element, Named, elements_of, inlines_of, nameds_of, placeable, text}
use Rattle.fluent_grammar.specs.Tree as t
use Rattle.fluent_grammar.specs.Tree.{Elements}
use Rattle.fluent_grammar.specs.Words.{Text}
use Rattle.fluent_meaning.specs.Choice.{chosen, first_default, first_match, is_choice, key_value, or_else}
use Rattle.fluent_meaning.specs.Ids.{Meaning}
use Rattle.fluent_progress.specs.Braces.{innermost, unbraced}
use Rattle.fluent_progress.specs.Depth.{IfPast, NestsPast, Open, with_closed, with_opened}
use Rattle.fluent_progress.specs.Nesting.{TakesElements, TakesExpression, TakesInlines, TakesNameds, TakesPattern, TakesValue, TakesVariants, after_placeable, after_text, in_braces, in_inline, later_named, later_positional, later_variant, this_named, this_placeable, this_positional, this_variant}
use Rattle.fluent_value.specs.Matching.{Plurals, matches}
use Rattle.fluent_value.specs.Value.{Value}
use Rattle.fluent_resolver.proofs.Asking.{none-some, some-same}

-- ---- what is open

module _ {o u : Open} where
  -- nothing more was asked for
  pub never-past : {takes : ℕ → Type 0} → u ≡ o → IfPast o u takes
  never-past e = record { if_past = λ later before. absurd (false≢true (sym before ∙ ap (λ (x : Open). x.is_past) (sym e) ∙ later)) }

  -- what is inside takes it, so what is around it does
  pub past-in : {inner outer : ℕ → Type 0} → ((n : ℕ) → inner n → outer n) → IfPast o u inner → IfPast o u outer
  past-in f h = record { if_past = λ later before. let it = h.if_past later before in record { bytes = it.bytes; takes_them = f it.bytes it.takes_them; past = it.past } }

  -- it is what couldn't be opened
  pub past-refused : {takes : ℕ → Type 0} (bytes : ℕ) → takes bytes → o.budget < o.taken + bytes → IfPast o u takes
  past-refused bytes takes_them past = record { if_past = λ later before. record { bytes = bytes; takes_them = takes_them; past = past } }

  -- the same is open, and the same patterns are being written
  pub past-at : {A : Type 0} {r : Open} {p q : A} (takes : A → ℕ → Type 0) → r ≡ o → p ≡ q → IfPast r u (takes p) → IfPast o u (takes q)
  past-at {r = r} {q = q} takes same at h = subst (λ x. IfPast x u (takes q)) same (subst (λ x. IfPast r u (takes x)) at h)

  -- so many bytes more are open
  pub past-opened : {r : Open} {inner outer : ℕ → Type 0} (bytes : ℕ) → r ≡ with_opened bytes o → ((n : ℕ) → inner n → outer (bytes + n)) → IfPast r u inner → IfPast o u outer
  past-opened bytes opened f h = record {
    if_past = λ later before.
        let it = h.if_past later (ap (λ (x : Open). x.is_past) opened ∙ before) in
        let past = it.past in
        let taken = ap (λ (x : Open). x.taken) opened in
        let budget = ap (λ (x : Open). x.budget) opened in
        record { bytes = bytes + it.bytes; takes_them = f it.bytes it.takes_them; past = omega (arith, past, taken, budget) };
  }

taken_again : (n bytes : ℕ) → (n + bytes) - bytes ≡ n
taken_again n bytes = omega arith

closed_again : (bytes : ℕ) (o : Open) → with_closed bytes (with_opened bytes o) ≡ o
closed_again bytes o = ap (λ (n : ℕ). let held : Open = record { taken = n; budget = o.budget; is_past = o.is_past } in held) (taken_again o.taken bytes)

-- what was opened is closed
pub opened-closed : {o r u w : Open} (bytes : ℕ) → r ≡ with_opened bytes o → u ≡ r → w ≡ with_closed bytes u → w ≡ o
opened-closed {o = o} bytes opened same closed = closed ∙ ap (with_closed bytes) (same ∙ opened) ∙ closed_again bytes o

-- where nothing is open, and no pattern is being written, the budget is what counts
pub nests : {F : Type 0} {find : Text → Option (Meaning F)} {o u : Open} {path : List Elements} {es : Elements} (budget : ℕ) → o ≡ record { taken = 0; budget = budget; is_past = false } → path ≡ [] →
    u.is_past ≡ true → IfPast o u (TakesPattern find path es) → NestsPast budget find es
nests {find = find} {o = o} {es = es} budget start outside later h =
    let it = h.if_past later (ap (λ (x : Open). x.is_past) start) in
    let past = it.past in
    let taken : o.taken ≡ 0 = ap (λ (x : Open). x.taken) start in
    let whole : o.budget ≡ budget = ap (λ (x : Open). x.budget) start in
    record { bytes = it.bytes; takes_them = subst (λ x. TakesPattern find x es it.bytes) outside it.takes_them; past = omega (arith, past, taken, whole) }

-- ---- what takes it

module _ {F : Type 0} (find : Text → Option (Meaning F)) (path : List Elements) {n : ℕ} where
  -- something after what stands before it
  pub this-element : (xs ys : List Element) (e : t.Expression) → TakesExpression find path e n → TakesElements find path (elements_of (xs ++ placeable e ∷ ys)) n
  this-element [] ys e h = this_placeable h
  this-element (text s ∷ xs) ys e h = after_text (this-element xs ys e h)
  this-element (placeable x ∷ xs) ys e h = after_placeable (this-element xs ys e h)

  pub this-inline : (xs ys : List t.Inline) (i : t.Inline) → TakesValue find path i n → TakesInlines find path (inlines_of (xs ++ i ∷ ys)) n
  this-inline [] ys i h = this_positional h
  this-inline (x ∷ xs) ys i h = later_positional (this-inline xs ys i h)

  pub this-named : (xs ys : List Named) (i : Named) → TakesValue find path i.value n → TakesNameds find path (nameds_of (xs ++ i ∷ ys)) n
  this-named [] ys i h = this_named h
  this-named (x ∷ xs) ys i h = later_named (this-named xs ys i h)

  -- an expression without the braces around it
  mutual
    pub innermost-takes : (e : t.Expression) → TakesExpression find path (innermost e) n → TakesExpression find path e n
    innermost-takes (t.select i vs) h = h
    innermost-takes (t.inline i) h = unbraced-takes i h

    unbraced-takes : (i : t.Inline) → TakesExpression find path (unbraced i) n → TakesExpression find path (t.inline i) n
    unbraced-takes (t.string_literal s) h = h
    unbraced-takes (t.number_literal s) h = h
    unbraced-takes (t.function_reference s a) h = h
    unbraced-takes (t.message_reference s a) h = h
    unbraced-takes (t.term_reference s a c) h = h
    unbraced-takes (t.variable_reference s) h = h
    unbraced-takes (t.nested e) h = in_inline (in_braces (innermost-takes e h))

  -- the variant that is chosen
  module _ (es : Elements) (inside : TakesPattern find path es n) where
    variant-by : (b : Bool) (k : t.VariantKey) (fs : Elements) (d : Bool) (vs : t.Variants) (o : Option Elements) → cond b (Some fs) o ≡ Some es →
        (o ≡ Some es → TakesVariants find path vs n) → TakesVariants find path (t.variant k fs d vs) n
    variant-by true k fs d vs o h later = this_variant (subst (λ x. TakesPattern find path x n) (sym (some-same h)) inside)
    variant-by false k fs d vs o h later = later_variant (later h)

    match-takes : {S : Type 0} (plurals : Plurals) (v : Value S) (vs : t.Variants) → first_match plurals v vs ≡ Some es → TakesVariants find path vs n
    match-takes plurals v t.no_variants h = absurd (none-some h)
    match-takes plurals v (t.variant k fs d vs) h = variant-by (matches plurals (key_value k) v) k fs d vs (first_match plurals v vs) h (match-takes plurals v vs)

    default-takes : (vs : t.Variants) → first_default vs ≡ Some es → TakesVariants find path vs n
    default-takes t.no_variants h = absurd (none-some h)
    default-takes (t.variant k fs d vs) h = variant-by d k fs d vs (first_default vs) h (default-takes vs)

    choice-takes : {S : Type 0} (b : Bool) (plurals : Plurals) (v : Value S) (vs : t.Variants) → cond b (first_match plurals v vs) None ≡ Some es → TakesVariants find path vs n
    choice-takes true plurals v vs h = match-takes plurals v vs h
    choice-takes false plurals v vs h = absurd (none-some h)

    either-takes : (vs : t.Variants) (o p : Option Elements) → or_else o p ≡ Some es → (o ≡ Some es → TakesVariants find path vs n) → (p ≡ Some es → TakesVariants find path vs n) → TakesVariants find path vs n
    either-takes vs None p h f g = g h
    either-takes vs (Some x) p h f g = f h

    pub chosen-takes : {S : Type 0} (plurals : Plurals) (v : Value S) (vs : t.Variants) → chosen plurals v vs ≡ Some es → TakesVariants find path vs n
    chosen-takes plurals v vs h = either-takes vs (cond (is_choice v) (first_match plurals v vs) None) (first_default vs) h (choice-takes (is_choice v) plurals v vs) (default-takes vs)
