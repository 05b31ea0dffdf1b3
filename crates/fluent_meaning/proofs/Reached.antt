-- What is out of reach does not matter: two ways to look ids up that agree on what a pattern reaches.
use Rattle.std.proofs.Common.{◌≡◌, ℕ, zero, suc, Bool, true, false, cond, List, [], ◌∷◌, ◌++◌, Option, Some, None, refl, ap, ◌∙◌}
use Rattle.std.specs.List.{flat_map}
use Rattle.std.specs.Str.{bytes_eq}
use Rattle.fluent_grammar.specs.Words.{Text}
use Rattle.fluent_grammar.specs.Tree as t
use Rattle.fluent_grammar.specs.Tree.{Elements, no_elements, Expression, select, inline, Variants, Inline, Arguments, arguments, Inlines, no_inlines, positional, Nameds, no_nameds, named, MaybeArguments, no_arguments, with_arguments}
use Rattle.fluent_errors.specs.Errors.{Unresolved, no_value, unknown, to_message, to_term}
use Rattle.fluent_number.specs.declared.plural.PluralOperands.{PluralOperands}
use Rattle.fluent_number.specs.declared.plural.PluralRuleType.{PluralRuleType}
use Rattle.fluent_number.specs.declared.plural.PluralCategory.{PluralCategory}
use Rattle.fluent_value.specs.Value as v
use Rattle.fluent_value.specs.Value.{Value}
use Rattle.fluent_meaning.specs.Choice.{chosen, first_match, first_default, key_value, is_choice, or_else}
use Rattle.fluent_value.specs.Matching.{matches}
use Rattle.fluent_meaning.specs.Environment.{Environment}
use Rattle.fluent_meaning.specs.Ids.{Meaning, number_function, function, message, term, find, attribute_named}
use Rattle.fluent_meaning.specs.Reach.{elements_ids, expression_ids, variants_ids, inline_ids, maybe_ids, arguments_ids, inlines_ids, nameds_ids, value_ids, meaning_ids, IsIn, first, later, Reaches, itself, named_by}
use Rattle.fluent_meaning.specs.ReachLaws.{AgreeOnReach, over, PatternReachSame, ReachSame}
use Rattle.fluent_meaning.specs.Steps.{Budget, may_open, shut, done, mapped, opening, entering}
use Rattle.fluent_meaning.specs.Substitution as s
use Rattle.fluent_meaning.specs.Substitution.{Surroundings, Called, Target, there, missing, there_or, is_on_path, deeper, Writer}
use Rattle.fluent_meaning.proofs.Fixpoint.{then-same, mapped-same, if-same}

in_front : {id : Text} {xs : List Text} (ys : List Text) → IsIn id xs → IsIn id (xs ++ ys)
in_front ys first = first
in_front ys (later h) = later (in_front ys h)

behind : {id : Text} (xs ys : List Text) → IsIn id ys → IsIn id (xs ++ ys)
behind [] ys h = h
behind (x ∷ xs) ys h = later (behind xs ys h)

-- a fact of each id of a list
abbrev Each : (Text → Type 0) → List Text → Type 0
Each P ids = (id : Text) → IsIn id ids → P id

each-front : {P : Text → Type 0} (xs ys : List Text) → Each P (xs ++ ys) → Each P xs
each-front xs ys h id i = h id (in_front ys i)

each-behind : {P : Text → Type 0} (xs ys : List Text) → Each P (xs ++ ys) → Each P ys
each-behind xs ys h id i = h id (behind xs ys i)

module _ (P : Text → Type 0) where
  by_either : (b : Bool) (o p : Option Elements) → Each P (value_ids o) → Each P (value_ids p) → Each P (value_ids (cond b o p))
  by_either true o p h k = h
  by_either false o p h k = k

  or_else-each : (o p : Option Elements) → Each P (value_ids o) → Each P (value_ids p) → Each P (value_ids (or_else o p))
  or_else-each None p h k = k
  or_else-each (Some es) p h k = h

  none-each : Each P []
  none-each id i = elim i [ ]

  -- the ids of a variant that is chosen are among those of the variants
  first_match-each : {S : Type 0} (plurals : PluralRuleType → PluralOperands → PluralCategory) (v : Value S) (vs : Variants) → Each P (variants_ids vs) → Each P (value_ids (first_match plurals v vs))
  first_match-each plurals v t.no_variants h = none-each
  first_match-each plurals v (t.variant k es d vs) h =
      by_either (matches plurals (key_value k) v) (Some es) (first_match plurals v vs) (each-front (elements_ids es) (variants_ids vs) h)
      (first_match-each plurals v vs (each-behind (elements_ids es) (variants_ids vs) h))

  first_default-each : (vs : Variants) → Each P (variants_ids vs) → Each P (value_ids (first_default vs))
  first_default-each t.no_variants h = none-each
  first_default-each (t.variant k es d vs) h =
      by_either d (Some es) (first_default vs) (each-front (elements_ids es) (variants_ids vs) h) (first_default-each vs (each-behind (elements_ids es) (variants_ids vs) h))

  chosen-each : {S : Type 0} (plurals : PluralRuleType → PluralOperands → PluralCategory) (v : Value S) (vs : Variants) → Each P (variants_ids vs) → Each P (value_ids (chosen plurals v vs))
  chosen-each plurals v vs h =
      or_else-each (cond (is_choice v) (first_match plurals v vs) None) (first_default vs)
      (by_either (is_choice v) (first_match plurals v vs) None (first_match-each plurals v vs h) none-each) (first_default-each vs h)

  -- and so with an attribute
  attribute-each : (name : Text) (as' : List t.Attribute) → Each P (flat_map (λ (a : t.Attribute). elements_ids a.value) as') → Each P (value_ids (attribute_named name as'))
  attribute-each name [] h = none-each
  attribute-each name (a ∷ as') h =
      by_either (bytes_eq a.id name) (Some a.value) (attribute_named name as') (each-front (elements_ids a.value) (flat_map (λ (a : t.Attribute). elements_ids a.value) as') h)
      (attribute-each name as' (each-behind (elements_ids a.value) (flat_map (λ (a : t.Attribute). elements_ids a.value) as') h))

  abbrev target_ids : Target → List Text
  target_ids (there es) = elements_ids es
  target_ids (missing e) = []

  abbrev found_ids : {F : Type 0} → Option (Meaning F) → List Text
  found_ids None = []
  found_ids (Some m) = meaning_ids m

  there_or-each : (e : Unresolved) (o : Option Elements) → Each P (value_ids o) → Each P (target_ids (there_or e o))
  there_or-each e None h = none-each
  there_or-each e (Some es) h = h

  message-each : {F : Type 0} (id : Text) (attr : Option Text) (o : Option (Meaning F)) → Each P (found_ids o) → Each P (target_ids (s.message_target id attr o))
  message-each id attr None h = none-each
  message-each id attr (Some number_function) h = none-each
  message-each id attr (Some (function f)) h = none-each
  message-each id attr (Some (term m)) h = none-each
  message-each id None (Some (message m)) h = there_or-each (no_value id) m.value (each-front (value_ids m.value) (flat_map (λ (a : t.Attribute). elements_ids a.value) m.attributes) h)
  message-each id (Some a) (Some (message m)) h = there_or-each (unknown (to_message id (Some a))) (attribute_named a m.attributes) (attribute-each a m.attributes (each-behind (value_ids m.value) (flat_map (λ (a : t.Attribute). elements_ids a.value) m.attributes) h))

  term-each : {F : Type 0} (id : Text) (attr : Option Text) (o : Option (Meaning F)) → Each P (found_ids o) → Each P (target_ids (s.term_target id attr o))
  term-each id attr None h = none-each
  term-each id attr (Some number_function) h = none-each
  term-each id attr (Some (function f)) h = none-each
  term-each id attr (Some (message m)) h = none-each
  term-each id None (Some (term m)) h = each-front (elements_ids m.value) (flat_map (λ (a : t.Attribute). elements_ids a.value) m.attributes) h
  term-each id (Some a) (Some (term m)) h = there_or-each (unknown (to_term id (Some a))) (attribute_named a m.attributes) (attribute-each a m.attributes (each-behind (elements_ids m.value) (flat_map (λ (a : t.Attribute). elements_ids a.value) m.attributes) h))

-- Two ways to look up, and a fact of ids: where it holds of an id, both find the same, and it holds of each id named there.
module _ {S F : Type 0} (env : Environment S F) (other : Text → Option (Meaning F)) (P : Text → Type 0) (same : (id : Text) → P id → env.find id ≡ other id) (next : (id : Text) → P id → Each P (found_ids P (env.find id))) where
  module _ (enter enter' : Writer env Elements) (agree : (es : Elements) (place : Surroundings S) (b : Budget) → Each P (elements_ids es) → enter es place b ≡ enter' es place b) where
    target-reached : (i : Inline) (o o' : Target) (place : Surroundings S) (b : Budget) → o ≡ o' → Each P (target_ids P o) → s.target_written env enter i o place b ≡ s.target_written (over other env) enter' i o' place b
    target-reached i o o' place b p h = at o h ∙ ap (λ o. s.target_written env enter' i o place b) p
      where
        at : (o : Target) → Each P (target_ids P o) → s.target_written env enter i o place b ≡ s.target_written env enter' i o place b
        at (there es) h = if-same (is_on_path es place.path) refl (ap entering (agree es (deeper es place) b h))
        at (missing e) h = refl

    message-reached : (i : Inline) (id : Text) (attr : Option Text) (place : Surroundings S) (b : Budget) → P id → s.target_written env enter i (s.message_target id attr (env.find id)) place b ≡ s.target_written (over other env) enter' i (s.message_target id attr (other id)) place b
    message-reached i id attr place b h = target-reached i (s.message_target id attr (env.find id)) (s.message_target id attr (other id)) place b (ap (s.message_target id attr) (same id h)) (message-each P id attr (env.find id) (next id h))

    term-reached : (i : Inline) (id : Text) (attr : Option Text) (place : Surroundings S) (b : Budget) → P id → s.target_written env enter i (s.term_target id attr (env.find id)) place b ≡ s.target_written (over other env) enter' i (s.term_target id attr (other id)) place b
    term-reached i id attr place b h = target-reached i (s.term_target id attr (env.find id)) (s.term_target id attr (other id)) place b (ap (s.term_target id attr) (same id h)) (term-each P id attr (env.find id) (next id h))

    variant-reached : (o : Option Elements) (place : Surroundings S) (b : Budget) → Each P (value_ids o) → s.variant_written env enter o place b ≡ s.variant_written (over other env) enter' o place b
    variant-reached None place b h = refl
    variant-reached (Some es) place b h = ap entering (agree es place b h)

    mutual
      unfolding s.expression_with s.inline_with s.value_with s.maybe_arguments_with s.arguments_with s.positional_with s.named_with

      expression-reached : (e : Expression) (place : Surroundings S) (b : Budget) → Each P (expression_ids e) → s.expression_with env enter e place b ≡ s.expression_with (over other env) enter' e place b
      expression-reached (inline i) place b h = inline-reached i place b h
      expression-reached (select i vs) place b h =
          let x = s.value_with env enter i place b in
          then-same (λ v c. s.variant_written env enter (chosen env.plurals v vs) place c) (λ v c. s.variant_written env enter' (chosen env.plurals v vs) place c) (value-reached i place b (each-front (inline_ids i) (variants_ids vs) h))
          (variant-reached (chosen env.plurals x.value vs) place x.budget (chosen-each P env.plurals x.value vs (each-behind (inline_ids i) (variants_ids vs) h)))

      inline-reached : (i : Inline) (place : Surroundings S) (b : Budget) → Each P (inline_ids i) → s.inline_with env enter i place b ≡ s.inline_with (over other env) enter' i place b
      inline-reached (t.string_literal x) place b h = refl
      inline-reached (t.number_literal x) place b h = refl
      inline-reached (t.function_reference id args) place b h =
          let x = s.arguments_with env enter args place b in
          then-same (λ called c. s.call_written env (t.function_reference id args) id (env.find id) called c) (λ called c. s.call_written env (t.function_reference id args) id (other id) called c) (arguments-reached args place b (λ x i. h x (later i)))
          (ap (λ o. s.call_written env (t.function_reference id args) id o x.value x.budget) (same id (h id first)))
      inline-reached (t.message_reference id attr) place b h = message-reached (t.message_reference id attr) id attr place b (h id first)
      inline-reached (t.term_reference id attr args) place b h =
          let x = s.maybe_arguments_with env enter args place b in
          then-same (λ called c. s.target_written env enter (t.term_reference id attr args) (s.term_target id attr (env.find id)) (s.in_term called.named place) c) (λ called c. s.target_written env enter' (t.term_reference id attr args) (s.term_target id attr (other id)) (s.in_term called.named place) c)
          (maybe_arguments-reached args place b (λ x i. h x (later i)))
          (term-reached (t.term_reference id attr args) id attr (s.in_term x.value.named place) x.budget (h id first))
      inline-reached (t.variable_reference id) place b h = refl
      inline-reached (t.nested e) place b h = expression-reached e place b h

      value-reached : (i : Inline) (place : Surroundings S) (b : Budget) → Each P (inline_ids i) → s.value_with env enter i place b ≡ s.value_with (over other env) enter' i place b
      value-reached (t.string_literal x) place b h = refl
      value-reached (t.number_literal x) place b h = refl
      value-reached (t.function_reference id args) place b h =
          let x = s.arguments_with env enter args place b in
          then-same (λ called c. s.call_found env (env.find id) called c) (λ called c. s.call_found env (other id) called c) (arguments-reached args place b (λ x i. h x (later i)))
          (ap (λ o. s.call_found env o x.value x.budget) (same id (h id first)))
      value-reached (t.message_reference id attr) place b h = mapped-same v.text (message-reached (t.message_reference id attr) id attr place b (h id first))
      value-reached (t.term_reference id attr args) place b h =
          let x = s.maybe_arguments_with env enter args place b in
          mapped-same v.text (then-same (λ called c. s.target_written env enter (t.term_reference id attr args) (s.term_target id attr (env.find id)) (s.in_term called.named place) c) (λ called c. s.target_written env enter' (t.term_reference id attr args) (s.term_target id attr (other id)) (s.in_term called.named place) c)
          (maybe_arguments-reached args place b (λ x i. h x (later i)))
          (term-reached (t.term_reference id attr args) id attr (s.in_term x.value.named place) x.budget (h id first)))
      value-reached (t.variable_reference id) place b h = refl
      value-reached (t.nested e) place b h = mapped-same v.text (expression-reached e place b h)

      maybe_arguments-reached : (args : MaybeArguments) (place : Surroundings S) (b : Budget) → Each P (maybe_ids args) → s.maybe_arguments_with env enter args place b ≡ s.maybe_arguments_with (over other env) enter' args place b
      maybe_arguments-reached no_arguments place b h = refl
      maybe_arguments-reached (with_arguments args) place b h = arguments-reached args place b h

      arguments-reached : (args : Arguments) (place : Surroundings S) (b : Budget) → Each P (arguments_ids args) → s.arguments_with env enter args place b ≡ s.arguments_with (over other env) enter' args place b
      arguments-reached (arguments ps ns) place b h =
          let x = s.positional_with env enter ps place b in
          then-same (λ vs c. mapped (s.both vs) (s.named_with env enter ns place c)) (λ vs c. mapped (s.both vs) (s.named_with (over other env) enter' ns place c)) (positional-reached ps place b (each-front (inlines_ids ps) (nameds_ids ns) h))
          (mapped-same (s.both x.value) (named-reached ns place x.budget (each-behind (inlines_ids ps) (nameds_ids ns) h)))

      positional-reached : (ps : Inlines) (place : Surroundings S) (b : Budget) → Each P (inlines_ids ps) → s.positional_with env enter ps place b ≡ s.positional_with (over other env) enter' ps place b
      positional-reached no_inlines place b h = refl
      positional-reached (positional e ps) place b h =
          let x = s.value_with env enter e place b in
          then-same (λ v c. mapped (λ vs. v ∷ vs) (s.positional_with env enter ps place c)) (λ v c. mapped (λ vs. v ∷ vs) (s.positional_with (over other env) enter' ps place c)) (value-reached e place b (each-front (inline_ids e) (inlines_ids ps) h))
          (mapped-same (λ vs. x.value ∷ vs) (positional-reached ps place x.budget (each-behind (inline_ids e) (inlines_ids ps) h)))

      named-reached : (ns : Nameds) (place : Surroundings S) (b : Budget) → Each P (nameds_ids ns) → s.named_with env enter ns place b ≡ s.named_with (over other env) enter' ns place b
      named-reached no_nameds place b h = refl
      named-reached (named y e ns) place b h =
          let x = s.value_with env enter e place b in
          then-same (λ v c. mapped (λ pairs. (y, v) ∷ pairs) (s.named_with env enter ns place c)) (λ v c. mapped (λ pairs. (y, v) ∷ pairs) (s.named_with (over other env) enter' ns place c)) (value-reached e place b (each-front (inline_ids e) (nameds_ids ns) h))
          (mapped-same (λ pairs. (y, x.value) ∷ pairs) (named-reached ns place x.budget (each-behind (inline_ids e) (nameds_ids ns) h)))

  module _ (write write' : Writer env Expression) (agree : (e : Expression) (place : Surroundings S) (b : Budget) → Each P (expression_ids e) → write e place b ≡ write' e place b) where
    placeable-reached : (whole : Elements) (e : Expression) (place : Surroundings S) (b : Budget) → Each P (expression_ids e) → s.placeable_with env write whole e place b ≡ s.placeable_with (over other env) write' whole e place b
    placeable-reached whole e place shut h = refl
    placeable-reached whole e place (may_open zero) h = refl
    placeable-reached whole e place (may_open (suc k)) h = ap (λ a. opening (s.surrounded env (s.is_isolated env whole e) (s.closed env e a))) (agree e (s.rooted whole place) (may_open k) h)

    text-reached : (x : Text) (b : Budget) → s.text_written env x b ≡ s.text_written (over other env) x b
    text-reached x (may_open k) = refl
    text-reached x shut = refl

    elements-reached : (whole es : Elements) (place : Surroundings S) (b : Budget) → Each P (elements_ids es) → s.elements_with env write whole es place b ≡ s.elements_with (over other env) write' whole es place b
    unfolding s.elements_with
    elements-reached whole no_elements place b h = refl
    elements-reached whole (t.text x es) place b h =
        let y = s.text_written env x b in
        then-same (λ q c. mapped (λ r. q ++ r) (s.elements_with env write whole es place c)) (λ q c. mapped (λ r. q ++ r) (s.elements_with (over other env) write' whole es place c)) (text-reached x b)
        (mapped-same (λ r. y.value ++ r) (elements-reached whole es place y.budget h))
    elements-reached whole (t.placeable e es) place b h =
        let y = s.placeable_with env write whole e place b in
        then-same (λ q c. mapped (λ r. q ++ r) (s.elements_with env write whole es place c)) (λ q c. mapped (λ r. q ++ r) (s.elements_with (over other env) write' whole es place c)) (placeable-reached whole e place b (each-front (expression_ids e) (elements_ids es) h))
        (mapped-same (λ r. y.value ++ r) (elements-reached whole es place y.budget (each-behind (expression_ids e) (elements_ids es) h)))

  pattern_at-reached : (d : ℕ) (es : Elements) (place : Surroundings S) (b : Budget) → Each P (elements_ids es) → s.pattern_at env d es place b ≡ s.pattern_at (over other env) d es place b
  unfolding s.pattern_at
  pattern_at-reached zero es place b h = elements-reached (λ e p c. done [] c) (λ e p c. done [] c) (λ e p c _. refl) es es place b h
  pattern_at-reached (suc d) es place b h = elements-reached (s.expression_with env (s.pattern_at env d)) (s.expression_with (over other env) (s.pattern_at (over other env) d)) (expression-reached (s.pattern_at env d) (s.pattern_at (over other env) d) (pattern_at-reached d)) es es place b h

  formatted-reached : (k : ℕ) (args : List (Text × Value S)) (es : Elements) → Each P (elements_ids es) → s.formatted env k args es ≡ s.formatted (over other env) k args es
  unfolding s.pattern_written
  formatted-reached k args es h = ap entering (pattern_at-reached k es (s.outset args) (may_open k) h)

-- what is reached from an id that is named by what an id stands for is reached from this one
reaches-further : {F : Type 0} {meaning : Text → Option (Meaning F)} {from id to : Text} {m : Meaning F} → meaning from ≡ Some m → IsIn id (meaning_ids m) → Reaches meaning id to → Reaches meaning from to
reaches-further e i itself = named_by itself e i
reaches-further e i (named_by r f j) = named_by (reaches-further e i r) f j

module _ {F : Type 0} (meaning other : Text → Option (Meaning F)) (P : Text → Type 0) where
  found-agrees : (id : Text) (o : Option (Meaning F)) → meaning id ≡ o → AgreeOnReach meaning other id → Each (AgreeOnReach meaning other) (found_ids P o)
  found-agrees id None e h = none-each (AgreeOnReach meaning other)
  found-agrees id (Some m) e h = λ x i y r. h y (reaches-further e i r)

pub pattern-reach-same : {S F : Type 0} → PatternReachSame S F
pattern-reach-same env other es h k args = formatted-reached env other (AgreeOnReach env.find other) (λ id h. h id itself) (λ id h. found-agrees env.find other (AgreeOnReach env.find other) id (env.find id) refl h) k args es h

pub reach-same : {S F : Type 0} → ReachSame S F
reach-same env ids other id h attr = (
  ap (s.message_target id attr) (h id itself),
  λ es e k args. pattern-reach-same (over (find ids) env) (find other) es
      (named es e (message-each (AgreeOnReach (find ids) (find other)) id attr (find ids id) (found-agrees (find ids) (find other) (AgreeOnReach (find ids) (find other)) id (find ids id) refl h))) k args,
)
  where
    named : (es : Elements) → s.message_target id attr (find ids id) ≡ there es → Each (AgreeOnReach (find ids) (find other)) (target_ids (AgreeOnReach (find ids) (find other)) (s.message_target id attr (find ids id))) → Each (AgreeOnReach (find ids) (find other)) (elements_ids es)
    named es e h = rw e at h
