-- What each kind of expression gives, in terms of what its parts give.
use Rattle.std.proofs.Common.{◌≡◌, [], ◌∷◌, Option, refl}
use Rattle.fluent_grammar.specs.Words.{Text}
use Rattle.fluent_grammar.specs.Escapes.{unescaped}
use Rattle.fluent_grammar.specs.Tree as t
use Rattle.fluent_value.specs.Value as v
use Rattle.fluent_value.specs.Value.{number_or_text}
use Rattle.fluent_meaning.specs.Choice.{chosen}
use Rattle.fluent_meaning.specs.Environment.{Environment, value_text}
use Rattle.fluent_meaning.specs.Steps.{Budget, done, and_then, mapped, beside}
use Rattle.fluent_meaning.specs.Substitution as s
use Rattle.fluent_meaning.specs.Substitution.{Surroundings, Target, message_target, term_target, in_term, both}

module _ {S F : Type 0} (env : Environment S F) (place : Surroundings S) (b : Budget) where
  -- what a message reference means, and what a term reference means
  abbrev pub message_at : Text → Option Text → Target
  message_at id attr = message_target id attr (env.find id)

  abbrev pub term_at : Text → Option Text → Target
  term_at id attr = term_target id attr (env.find id)

  -- an expression, written
  pub expression-inline : (i : t.Inline) → s.expression_written env (t.inline i) place b ≡ s.inline_written env i place b
  unfolding s.expression_with
  expression-inline i = refl

  pub expression-select : (i : t.Inline) (vs : t.Variants) → s.expression_written env (t.select i vs) place b ≡ and_then (s.value_found env i place b) (λ v c. s.variant_written env (s.pattern_written env) (chosen env.plurals v vs) place c)
  unfolding s.expression_with
  expression-select i vs = refl

  -- an inline expression, written
  pub inline-string : (x : Text) → s.inline_written env (t.string_literal x) place b ≡ done (unescaped x) b
  unfolding s.inline_with
  inline-string x = refl

  pub inline-number : (x : Text) → s.inline_written env (t.number_literal x) place b ≡ done (value_text env (number_or_text x)) b
  unfolding s.inline_with
  inline-number x = refl

  pub inline-function : (id : Text) (args : t.Arguments) → s.inline_written env (t.function_reference id args) place b ≡ and_then (s.arguments_found env (t.with_arguments args) place b) (λ called c. s.call_written env (t.function_reference id args) id (env.find id) called c)
  unfolding s.inline_with
  inline-function id args = refl

  pub inline-message : (id : Text) (attr : Option Text) → s.inline_written env (t.message_reference id attr) place b ≡ s.target_written env (s.pattern_written env) (t.message_reference id attr) (message_at id attr) place b
  unfolding s.inline_with
  inline-message id attr = refl

  pub inline-term : (id : Text) (attr : Option Text) (args : t.MaybeArguments) → s.inline_written env (t.term_reference id attr args) place b ≡ and_then (s.arguments_found env args place b) (λ called c. s.target_written env (s.pattern_written env) (t.term_reference id attr args) (term_at id attr) (in_term called.named place) c)
  unfolding s.inline_with
  inline-term id attr args = refl

  pub inline-variable : (id : Text) → s.inline_written env (t.variable_reference id) place b ≡ s.variable_written env id (s.variable env id place) place b
  unfolding s.inline_with
  inline-variable id = refl

  pub inline-nested : (e : t.Expression) → s.inline_written env (t.nested e) place b ≡ s.expression_written env e place b
  unfolding s.inline_with
  inline-nested e = refl

  -- the value of an inline expression, as a selector or an argument
  pub value-string : (x : Text) → s.value_found env (t.string_literal x) place b ≡ done (v.text (unescaped x)) b
  unfolding s.value_with
  value-string x = refl

  pub value-number : (x : Text) → s.value_found env (t.number_literal x) place b ≡ done (number_or_text x) b
  unfolding s.value_with
  value-number x = refl

  pub value-function : (id : Text) (args : t.Arguments) → s.value_found env (t.function_reference id args) place b ≡ and_then (s.arguments_found env (t.with_arguments args) place b) (λ called c. s.call_found env (env.find id) called c)
  unfolding s.value_with
  value-function id args = refl

  pub value-variable : (id : Text) → s.value_found env (t.variable_reference id) place b ≡ s.variable_found env id (s.variable env id place) place b
  unfolding s.value_with
  value-variable id = refl

  -- references and nested placeables give the text that they write
  pub value-message : (id : Text) (attr : Option Text) → s.value_found env (t.message_reference id attr) place b ≡ mapped v.text (s.inline_written env (t.message_reference id attr) place b)
  unfolding s.value_with
  value-message id attr = refl

  pub value-term : (id : Text) (attr : Option Text) (args : t.MaybeArguments) → s.value_found env (t.term_reference id attr args) place b ≡ mapped v.text (s.inline_written env (t.term_reference id attr args) place b)
  unfolding s.value_with
  value-term id attr args = refl

  pub value-nested : (e : t.Expression) → s.value_found env (t.nested e) place b ≡ mapped v.text (s.inline_written env (t.nested e) place b)
  unfolding s.value_with
  value-nested e = refl

  -- arguments: positional ones, and then named ones
  pub arguments-none : s.arguments_found env t.no_arguments place b ≡ done (record { positional = []; named = [] }) b
  unfolding s.maybe_arguments_with
  arguments-none = refl

  pub arguments-some : (ps : t.Inlines) (ns : t.Nameds) → s.arguments_found env (t.with_arguments (t.arguments ps ns)) place b ≡ and_then (s.positional_found env ps place b) (λ vs c. mapped (both vs) (s.named_found env ns place c))
  unfolding s.maybe_arguments_with
  arguments-some ps ns = refl

  pub positional-none : s.positional_found env t.no_inlines place b ≡ done [] b
  unfolding s.positional_with
  positional-none = refl

  pub positional-more : (e : t.Inline) (ps : t.Inlines) → s.positional_found env (t.positional e ps) place b ≡ and_then (s.value_found env e place b) (λ v c. mapped (λ vs. v ∷ vs) (s.positional_found env ps place c))
  unfolding s.positional_with
  positional-more e ps = refl

  pub named-none : s.named_found env t.no_nameds place b ≡ done [] b
  unfolding s.named_with
  named-none = refl

  pub named-more : (x : Text) (e : t.Inline) (ns : t.Nameds) → s.named_found env (t.named x e ns) place b ≡ and_then (s.value_found env e place b) (λ v c. mapped (λ pairs. (x, v) ∷ pairs) (s.named_found env ns place c))
  unfolding s.named_with
  named-more x e ns = refl

  -- the elements of a pattern
  pub elements-none : (whole : t.Elements) → s.elements_written env whole t.no_elements place b ≡ done [] b
  unfolding s.elements_with
  elements-none whole = refl

  pub elements-text : (whole : t.Elements) (x : Text) (es : t.Elements) → s.elements_written env whole (t.text x es) place b ≡ beside (s.text_written env x b) (λ c. s.elements_written env whole es place c)
  unfolding s.elements_with
  elements-text whole x es = refl

  pub elements-placeable : (whole : t.Elements) (e : t.Expression) (es : t.Elements) → s.elements_written env whole (t.placeable e es) place b ≡ beside (s.placeable_written env whole e place b) (λ c. s.elements_written env whole es place c)
  unfolding s.elements_with
  elements-placeable whole e es = refl
