-- One argument among others, by what was found of those before it.
use Rattle.std.proofs.Common.{◌≡◌, ◌∙◌, ◌+◌, ◌<◌, ◌≤◌, ◌++◌, ◌∷◌, [], ℕ, List, Bor, ap, drop, get_or, length, map, subst, sym, take}
use Rattle.std.proofs.lemmas.List.{length-map}
use Rattle.fluent_ast.proofs.Views.{named_view-out}
use Rattle.fluent_ast.specs.Borrowed.{inline_of, name_of}
use Rattle.fluent_ast.specs.View.{Named, inlines_of, named_view, nameds_of}
use Rattle.fluent_ast.specs.declared.InlineExpression.{InlineExpression}
use Rattle.fluent_ast.specs.declared.NamedArgument.{NamedArgument, out-NamedArgument}
use Rattle.fluent_grammar.specs.Tree as t
use Rattle.fluent_grammar.specs.Words.{Text}
use Rattle.fluent_meaning.proofs.Falls.{falls-mapped, named-falls, pattern-falls, positional-falls}
use Rattle.fluent_meaning.proofs.Opening.{finds-left}
use Rattle.fluent_meaning.proofs.States.{finds-as}
use Rattle.fluent_meaning.specs.Environment.{Environment}
use Rattle.fluent_meaning.specs.Refused.{TellsSome}
use Rattle.fluent_meaning.specs.Steps.{left, mapped}
use Rattle.fluent_meaning.specs.Substitution as s
use Rattle.fluent_meaning.specs.Substitution.{Surroundings}
use Rattle.fluent_meaning.specs.Told.{Finds, State}
use Rattle.fluent_meaning.specs.Weight.{inline_weight, inlines_weight, nameds_weight}
use Rattle.fluent_progress.specs.Nesting.{TakesInlines, TakesNameds, TakesValue}
use Rattle.fluent_value.specs.Args.{all_set, with_argument}
use Rattle.fluent_value.specs.Value.{Value}
use Rattle.fluent_resolver.proofs.Calls.{get_or-view, map-up-to, named-one, named-refused, positional-one, positional-refused}
use Rattle.fluent_resolver.proofs.Depth.{this-inline, this-named}
use Rattle.fluent_resolver.proofs.Elements.{around}
use Rattle.fluent_resolver.proofs.Parts.{tells-as, weight-named, weight-positional}

-- one without a name
module _ {S F : Type 0} (env : Environment S F) (here : Surroundings S) {items args : List (InlineExpression (Bor Text))} (lent : items ≡ args) (i : ℕ) (arg : InlineExpression (Bor Text)) (less : i < length items) (is : arg ≡ get_or items i arg) where
  abbrev before : List t.Inline
  before = map inline_of (take i items)

  whole : inlines_of (before ++ inline_of arg ∷ map inline_of (drop (i + 1) items)) ≡ inlines_of (map inline_of args)
  whole = ap inlines_of (around inline_of items i arg less is ∙ ap (map inline_of) lent)

  pub positional-takes : (n : ℕ) → TakesValue env.find here.path (inline_of arg) n → TakesInlines env.find here.path (inlines_of (map inline_of args)) n
  positional-takes n h = subst (λ x. TakesInlines env.find here.path x n) whole (this-inline env.find here.path before (map inline_of (drop (i + 1) items)) (inline_of arg) h)

  pub positional-light : inline_weight (inline_of arg) < inlines_weight (inlines_of (map inline_of args))
  positional-light =
      subst (λ zs. inline_weight (inline_of arg) < inlines_weight (inlines_of zs)) (ap (map inline_of) lent)
      (weight-positional (map inline_of items) i (inline_of arg) (subst (λ n. i < n) (sym (length-map items inline_of)) less) (get_or-view inline_of items i arg less is))

  module _ {vs : List (Value S)} {r u : State} (found : Finds vs r u (λ b. s.positional_found env (inlines_of before) here b)) where
    pub positional-left : left u.budget ≤ left r.budget
    positional-left = finds-left (λ b. s.positional_found env (inlines_of before) here b) found (positional-falls env (s.pattern_written env) (pattern-falls env) (inlines_of before) here r.budget)

    module _ {at : Surroundings S} (same : at ≡ here) {w : State} where
      pub positional-tells : TellsSome u w (s.value_found env (inline_of arg) at u.budget) → TellsSome r w (s.positional_found env (inlines_of (map inline_of args)) here r.budget)
      positional-tells h =
          tells-as (ap (λ x. s.positional_found env x here r.budget) whole)
          (positional-refused env here before (map inline_of (drop (i + 1) items)) (inline_of arg) found (subst (λ p. TellsSome u w (s.value_found env (inline_of arg) p u.budget)) same h))

      pub positional-more : {v : Value S} → Finds v u w (s.value_found env (inline_of arg) at) → Finds (vs ++ v ∷ []) r w (λ b. s.positional_found env (inlines_of (map inline_of (take (i + 1) items))) here b)
      positional-more {v = v} h =
          finds-as (λ b. s.positional_found env (inlines_of (before ++ inline_of arg ∷ [])) here b) (λ b. s.positional_found env (inlines_of (map inline_of (take (i + 1) items))) here b)
          (ap (λ zs. s.positional_found env (inlines_of zs) here r.budget) (map-up-to inline_of items i arg less is))
          (positional-one env here before (inline_of arg) found (subst (λ p. Finds v u w (s.value_found env (inline_of arg) p)) same h))

-- one with a name
module _ {S F : Type 0} (env : Environment S F) (here : Surroundings S) {items args : List (NamedArgument (Bor Text))} (lent : items ≡ args) (i : ℕ) (arg : NamedArgument (Bor Text)) (less : i < length items) (is : arg ≡ get_or items i arg) where
  abbrev view : NamedArgument (Bor Text) → Named
  view = named_view (Bor Text) (λ s. s.now)

  abbrev value : t.Inline
  value = inline_of (out-NamedArgument (Bor Text) arg).value

  abbrev name : Text
  name = name_of (out-NamedArgument (Bor Text) arg).name

  is_value : (view arg).value ≡ value
  is_value = ap (λ (n : Named). n.value) (named_view-out (Bor Text) (λ s. s.now) arg)

  is_name : (view arg).name ≡ name
  is_name = ap (λ (n : Named). n.name) (named_view-out (Bor Text) (λ s. s.now) arg)

  abbrev named_before : List Named
  named_before = map view (take i items)

  named_whole : nameds_of (named_before ++ view arg ∷ map view (drop (i + 1) items)) ≡ nameds_of (map view args)
  named_whole = ap nameds_of (around view items i arg less is ∙ ap (map view) lent)

  pub named-takes : (n : ℕ) → TakesValue env.find here.path value n → TakesNameds env.find here.path (nameds_of (map view args)) n
  named-takes n h = subst (λ x. TakesNameds env.find here.path x n) named_whole (this-named env.find here.path named_before (map view (drop (i + 1) items)) (view arg) (subst (λ k. TakesValue env.find here.path k n) (sym is_value) h))

  pub named-light : inline_weight value < nameds_weight (nameds_of (map view args))
  named-light =
      subst (λ k. inline_weight k < nameds_weight (nameds_of (map view args))) is_value
      (subst (λ zs. inline_weight (view arg).value < nameds_weight (nameds_of zs)) (ap (map view) lent)
      (weight-named (map view items) i (view arg) (subst (λ n. i < n) (sym (length-map items view)) less) (get_or-view view items i arg less is)))

  module _ {vs : List (Text × Value S)} {r u : State} (found : Finds vs r u (λ b. mapped (all_set []) (s.named_found env (nameds_of named_before) here b))) where
    pub named-left : left u.budget ≤ left r.budget
    named-left = finds-left (λ b. mapped (all_set []) (s.named_found env (nameds_of named_before) here b)) found (falls-mapped (all_set []) (named-falls env (s.pattern_written env) (pattern-falls env) (nameds_of named_before) here r.budget))

    module _ {at : Surroundings S} (same : at ≡ here) {w : State} where
      pub named-tells : TellsSome u w (s.value_found env value at u.budget) → TellsSome r w (mapped (all_set []) (s.named_found env (nameds_of (map view args)) here r.budget))
      named-tells h =
          let inner : TellsSome u w (s.value_found env (view arg).value here u.budget) =
          subst (λ k. TellsSome u w (s.value_found env k here u.budget)) (sym is_value) (subst (λ p. TellsSome u w (s.value_found env value p u.budget)) same h) in
          tells-as (ap (λ x. mapped (all_set []) (s.named_found env x here r.budget)) named_whole) (named-refused env here named_before (map view (drop (i + 1) items)) (view arg) found inner)

      pub named-more : {v : Value S} → Finds v u w (s.value_found env value at) → Finds (with_argument name v vs) r w (λ b. mapped (all_set []) (s.named_found env (nameds_of (map view (take (i + 1) items))) here b))
      named-more {v = v} h =
          let inner : Finds v u w (s.value_found env (view arg).value here) =
          subst (λ k. Finds v u w (s.value_found env k here)) (sym is_value) (subst (λ p. Finds v u w (s.value_found env value p)) same h) in
          subst (λ k. Finds (with_argument k v vs) r w (λ b. mapped (all_set []) (s.named_found env (nameds_of (map view (take (i + 1) items))) here b))) is_name
          (finds-as (λ b. mapped (all_set []) (s.named_found env (nameds_of (named_before ++ view arg ∷ [])) here b)) (λ b. mapped (all_set []) (s.named_found env (nameds_of (map view (take (i + 1) items))) here b))
          (ap (λ zs. mapped (all_set []) (s.named_found env (nameds_of zs) here r.budget)) (map-up-to view items i arg less is)) (named-one env here named_before (view arg) found inner))
