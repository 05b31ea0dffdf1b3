-- Depth is always enough: what a pattern gives is an equation in which no depth stands.
use Rattle.std.proofs.Common.{◌≡◌, ℕ, zero, suc, ◌≤◌, ◌<◌, Bool, true, false, cond, [], ◌∷◌, ◌++◌, ◌+◌, Option, Some, None, refl, ap, ◌∙◌, arith}
use Rattle.std.proofs.Math.Nat.{le_refl, le_trans}
use Rattle.fluent_grammar.specs.Tree as t
use Rattle.fluent_grammar.specs.Tree.{Elements, no_elements, Expression, select, inline, Inline, Arguments, arguments, Inlines, no_inlines, positional, Nameds, no_nameds, named, MaybeArguments, no_arguments, with_arguments}
use Rattle.fluent_value.specs.Value as v
use Rattle.fluent_value.specs.Value.{Value}
use Rattle.fluent_meaning.specs.Choice.{chosen}
use Rattle.fluent_meaning.specs.Environment.{Environment}
use Rattle.fluent_meaning.specs.Steps.{Budget, may_open, shut, left, Done, done, and_then, mapped, opening, entering}
use Rattle.fluent_meaning.specs.Substitution as s
use Rattle.fluent_meaning.specs.Substitution.{Surroundings, Called, Target, there, missing, is_on_path, deeper, Writer}
use Rattle.fluent_meaning.proofs.Falls.{Falls, falls-done, expression-falls, value-falls, positional-falls, maybe_arguments-falls, text-falls, placeable-falls, pattern_at-falls}

nothing_below : {n : ℕ} → n < 0 → ⊥
nothing_below h = omega (arith, h)

pub then-same : {A B : Type 0} {x x' : Done A} (f f' : A → Budget → Done B) → x ≡ x' → f x.value x.budget ≡ f' x.value x.budget → and_then x f ≡ and_then x' f'
then-same {x = x} f f' p q =
    ap (λ b. record { value = b.value; errors = x.errors ++ b.errors; budget = b.budget; opened = x.opened + b.opened; entered = x.entered + b.entered }) q
    ∙ ap (λ z. and_then z f') p

pub mapped-same : {A B : Type 0} (f : A → B) {x x' : Done A} → x ≡ x' → mapped f x ≡ mapped f x'
mapped-same f p = ap (mapped f) p

pub if-same : {A : Type 0} (c : Bool) {x y x' y' : A} → x ≡ x' → y ≡ y' → cond c x y ≡ cond c x' y'
if-same true p q = p
if-same false p q = q

-- two ways of entering a pattern that agree up to a budget
module _ {S F : Type 0} (env : Environment S F) (enter other : Writer env Elements) (enters : (es : Elements) (place : Surroundings S) (b : Budget) → Falls b (enter es place b)) (n : ℕ) (agree : (es : Elements) (place : Surroundings S) (b : Budget) → left b ≤ n → enter es place b ≡ other es place b) where
  referred-same : (i : Inline) (es : Elements) (place : Surroundings S) (b : Budget) → left b ≤ n → s.referred env enter i es place b ≡ s.referred env other i es place b
  referred-same i es place b h = if-same (is_on_path es place.path) refl (ap entering (agree es (deeper es place) b h))

  target-same : (i : Inline) (o : Target) (place : Surroundings S) (b : Budget) → left b ≤ n → s.target_written env enter i o place b ≡ s.target_written env other i o place b
  target-same i (there es) place b h = referred-same i es place b h
  target-same i (missing e) place b h = refl

  variant-same : (o : Option Elements) (place : Surroundings S) (b : Budget) → left b ≤ n → s.variant_written env enter o place b ≡ s.variant_written env other o place b
  variant-same None place b h = refl
  variant-same (Some es) place b h = ap entering (agree es place b h)

  mutual
    unfolding s.expression_with s.inline_with s.value_with s.maybe_arguments_with s.arguments_with s.positional_with s.named_with

    pub expression-same : (e : Expression) (place : Surroundings S) (b : Budget) → left b ≤ n → s.expression_with env enter e place b ≡ s.expression_with env other e place b
    expression-same (inline i) place b h = inline-same i place b h
    expression-same (select i vs) place b h =
        let x = s.value_with env enter i place b in
        then-same (λ v c. s.variant_written env enter (chosen env.plurals v vs) place c) (λ v c. s.variant_written env other (chosen env.plurals v vs) place c) (value-same i place b h)
        (variant-same (chosen env.plurals x.value vs) place x.budget (le_trans (value-falls env enter enters i place b).le h))

    pub inline-same : (i : Inline) (place : Surroundings S) (b : Budget) → left b ≤ n → s.inline_with env enter i place b ≡ s.inline_with env other i place b
    inline-same (t.string_literal x) place b h = refl
    inline-same (t.number_literal x) place b h = refl
    inline-same (t.function_reference id args) place b h = ap (λ x. and_then x (λ called c. s.call_written env (t.function_reference id args) id (env.find id) called c)) (arguments-same args place b h)
    inline-same (t.message_reference id attr) place b h = target-same (t.message_reference id attr) (s.message_target id attr (env.find id)) place b h
    inline-same (t.term_reference id attr args) place b h =
        let x = s.maybe_arguments_with env enter args place b in
        then-same (λ called c. s.target_written env enter (t.term_reference id attr args) (s.term_target id attr (env.find id)) (s.in_term called.named place) c) (λ called c. s.target_written env other (t.term_reference id attr args) (s.term_target id attr (env.find id)) (s.in_term called.named place) c) (maybe_arguments-same args place b h)
        (target-same (t.term_reference id attr args) (s.term_target id attr (env.find id)) (s.in_term x.value.named place) x.budget (le_trans (maybe_arguments-falls env enter enters args place b).le h))
    inline-same (t.variable_reference id) place b h = refl
    inline-same (t.nested e) place b h = expression-same e place b h

    pub value-same : (i : Inline) (place : Surroundings S) (b : Budget) → left b ≤ n → s.value_with env enter i place b ≡ s.value_with env other i place b
    value-same (t.string_literal x) place b h = refl
    value-same (t.number_literal x) place b h = refl
    value-same (t.function_reference id args) place b h = ap (λ x. and_then x (λ called c. s.call_found env (env.find id) called c)) (arguments-same args place b h)
    value-same (t.message_reference id attr) place b h = mapped-same v.text (target-same (t.message_reference id attr) (s.message_target id attr (env.find id)) place b h)
    value-same (t.term_reference id attr args) place b h =
        let x = s.maybe_arguments_with env enter args place b in
        mapped-same v.text (then-same (λ called c. s.target_written env enter (t.term_reference id attr args) (s.term_target id attr (env.find id)) (s.in_term called.named place) c) (λ called c. s.target_written env other (t.term_reference id attr args) (s.term_target id attr (env.find id)) (s.in_term called.named place) c) (maybe_arguments-same args place b h)
        (target-same (t.term_reference id attr args) (s.term_target id attr (env.find id)) (s.in_term x.value.named place) x.budget (le_trans (maybe_arguments-falls env enter enters args place b).le h)))
    value-same (t.variable_reference id) place b h = refl
    value-same (t.nested e) place b h = mapped-same v.text (expression-same e place b h)

    pub maybe_arguments-same : (args : MaybeArguments) (place : Surroundings S) (b : Budget) → left b ≤ n → s.maybe_arguments_with env enter args place b ≡ s.maybe_arguments_with env other args place b
    maybe_arguments-same no_arguments place b h = refl
    maybe_arguments-same (with_arguments args) place b h = arguments-same args place b h

    pub arguments-same : (args : Arguments) (place : Surroundings S) (b : Budget) → left b ≤ n → s.arguments_with env enter args place b ≡ s.arguments_with env other args place b
    arguments-same (arguments ps ns) place b h =
        let x = s.positional_with env enter ps place b in
        then-same (λ vs c. mapped (s.both vs) (s.named_with env enter ns place c)) (λ vs c. mapped (s.both vs) (s.named_with env other ns place c)) (positional-same ps place b h)
        (mapped-same (s.both x.value) (named-same ns place x.budget (le_trans (positional-falls env enter enters ps place b).le h)))

    pub positional-same : (ps : Inlines) (place : Surroundings S) (b : Budget) → left b ≤ n → s.positional_with env enter ps place b ≡ s.positional_with env other ps place b
    positional-same no_inlines place b h = refl
    positional-same (positional e ps) place b h =
        let x = s.value_with env enter e place b in
        then-same (λ v c. mapped (λ vs. v ∷ vs) (s.positional_with env enter ps place c)) (λ v c. mapped (λ vs. v ∷ vs) (s.positional_with env other ps place c)) (value-same e place b h)
        (mapped-same (λ vs. x.value ∷ vs) (positional-same ps place x.budget (le_trans (value-falls env enter enters e place b).le h)))

    pub named-same : (ns : Nameds) (place : Surroundings S) (b : Budget) → left b ≤ n → s.named_with env enter ns place b ≡ s.named_with env other ns place b
    named-same no_nameds place b h = refl
    named-same (named y e ns) place b h =
        let x = s.value_with env enter e place b in
        then-same (λ v c. mapped (λ pairs. (y, v) ∷ pairs) (s.named_with env enter ns place c)) (λ v c. mapped (λ pairs. (y, v) ∷ pairs) (s.named_with env other ns place c)) (value-same e place b h)
        (mapped-same (λ pairs. (y, x.value) ∷ pairs) (named-same ns place x.budget (le_trans (value-falls env enter enters e place b).le h)))

-- two ways of writing an expression that agree below a budget
module _ {S F : Type 0} (env : Environment S F) (write other : Writer env Expression) (writes : (e : Expression) (place : Surroundings S) (b : Budget) → Falls b (write e place b)) (n : ℕ) (agree : (e : Expression) (place : Surroundings S) (b : Budget) → left b < n → write e place b ≡ other e place b) where
  pub placeable-same : (whole : Elements) (e : Expression) (place : Surroundings S) (b : Budget) → left b ≤ n → s.placeable_with env write whole e place b ≡ s.placeable_with env other whole e place b
  placeable-same whole e place shut h = refl
  placeable-same whole e place (may_open zero) h = refl
  placeable-same whole e place (may_open (suc k)) h = ap (λ a. opening (s.surrounded env (s.is_isolated env whole e) (s.closed env e a))) (agree e (s.rooted whole place) (may_open k) h)

  pub elements-same : (whole es : Elements) (place : Surroundings S) (b : Budget) → left b ≤ n → s.elements_with env write whole es place b ≡ s.elements_with env other whole es place b
  unfolding s.elements_with
  elements-same whole no_elements place b h = refl
  elements-same whole (t.text x es) place b h = then-same (λ r c. mapped (λ q. r ++ q) (s.elements_with env write whole es place c)) (λ r c. mapped (λ q. r ++ q) (s.elements_with env other whole es place c)) refl (mapped-same (λ q. (s.text_written env x b).value ++ q) (elements-same whole es place (s.text_written env x b).budget (le_trans (text-falls env write writes x b).le h)))
  elements-same whole (t.placeable e es) place b h = then-same (λ r c. mapped (λ q. r ++ q) (s.elements_with env write whole es place c)) (λ r c. mapped (λ q. r ++ q) (s.elements_with env other whole es place c)) (placeable-same whole e place b h) (mapped-same (λ q. (s.placeable_with env write whole e place b).value ++ q) (elements-same whole es place (s.placeable_with env write whole e place b).budget (le_trans (placeable-falls env write writes whole e place b).le h)))

module _ {S F : Type 0} (env : Environment S F) where
  -- any two depths that the budget doesn't pass
  pub depth-same : (d d' : ℕ) (es : Elements) (place : Surroundings S) (b : Budget) → left b ≤ d → left b ≤ d' → s.pattern_at env d es place b ≡ s.pattern_at env d' es place b
  unfolding s.pattern_at
  depth-same zero zero es place b h k = refl
  depth-same zero (suc d') es place b h k = elements-same env (λ e p c. done [] c) (s.expression_with env (s.pattern_at env d')) (λ e p c. falls-done c) zero (λ e p c lt. absurd (nothing_below lt)) es es place b h
  depth-same (suc d) zero es place b h k = elements-same env (s.expression_with env (s.pattern_at env d)) (λ e p c. done [] c) (expression-falls env (s.pattern_at env d) (pattern_at-falls env d)) zero (λ e p c lt. absurd (nothing_below lt)) es es place b k
  depth-same (suc d) (suc d') es place b h k =
      elements-same env (s.expression_with env (s.pattern_at env d)) (s.expression_with env (s.pattern_at env d')) (expression-falls env (s.pattern_at env d) (pattern_at-falls env d)) (left b)
      (λ e p c lt. expression-same env (s.pattern_at env d) (s.pattern_at env d') (pattern_at-falls env d) (left c) (λ xs q x le. depth-same d d' xs q x (omega (arith, le, lt, h)) (omega (arith, le, lt, k))) e p c (le_refl (left c)))
      es es place b (le_refl (left b))

  pattern-from : (d : ℕ) (es : Elements) (place : Surroundings S) (b : Budget) → left b ≡ d → s.pattern_at env d es place b ≡ s.elements_written env es es place b
  unfolding s.pattern_written s.pattern_at
  pattern-from zero es place b e = elements-same env (λ e p c. done [] c) (s.expression_written env) (λ e p c. falls-done c) zero (λ e p c lt. absurd (nothing_below lt)) es es place b (omega (arith, e))
  pattern-from (suc d) es place b e =
      elements-same env (s.expression_with env (s.pattern_at env d)) (s.expression_written env) (expression-falls env (s.pattern_at env d) (pattern_at-falls env d)) (suc d)
      (λ x p c lt. expression-same env (s.pattern_at env d) (s.pattern_written env) (pattern_at-falls env d) (left c) (λ xs q y le. depth-same d (left y) xs q y (omega (arith, le, lt)) (le_refl (left y))) x p c (le_refl (left c)))
      es es place b (omega (arith, e))

  -- what a pattern gives, in terms of what patterns give
  pub pattern-is : (es : Elements) (place : Surroundings S) (b : Budget) → s.pattern_written env es place b ≡ s.elements_written env es es place b
  unfolding s.pattern_written
  pattern-is es place b = pattern-from (left b) es place b refl
