-- A missing variable is an error, so what has no errors without arguments asks for none of them.
use Rattle.std.proofs.Common.{◌≡◌, ℕ, zero, suc, Bool, true, false, cond, List, [], ◌∷◌, ◌++◌, Option, Some, None, refl, ap, ◌∙◌, sym}
use Rattle.std.specs.Prelude.{encode_utf8}
use Rattle.fluent_grammar.specs.Words.{Text}
use Rattle.fluent_grammar.specs.Tree as t
use Rattle.fluent_grammar.specs.Tree.{Elements, no_elements, Expression, select, inline, Inline, Arguments, arguments, Inlines, no_inlines, positional, Nameds, no_nameds, named, MaybeArguments, no_arguments, with_arguments}
use Rattle.fluent_value.specs.Args.{argument}
use Rattle.fluent_value.specs.Value as v
use Rattle.fluent_value.specs.Value.{Value}
use Rattle.fluent_meaning.specs.ArgumentsLaws.{NeedsNoArguments}
use Rattle.fluent_meaning.specs.Choice.{chosen}
use Rattle.fluent_meaning.specs.Environment.{Environment}
use Rattle.fluent_meaning.specs.Steps.{Budget, may_open, shut, is_shut, Done, done, and_then, mapped, opening, entering}
use Rattle.fluent_meaning.specs.Substitution as s
use Rattle.fluent_meaning.specs.Fallback.{braced, fallback}
use Rattle.fluent_meaning.specs.Substitution.{Surroundings, Called, Target, there, missing, is_on_path, rooted_path, Writer}
use Rattle.fluent_meaning.proofs.Fixpoint.{then-same}

front-none : {A : Type 0} (xs ys : List A) → xs ++ ys ≡ [] → xs ≡ []
front-none [] ys h = refl
front-none (x ∷ xs) ys h = absurd cc

back-none : {A : Type 0} (xs ys : List A) → xs ++ ys ≡ [] → ys ≡ []
back-none [] ys h = h
back-none (x ∷ xs) ys h = absurd cc

-- the second is the first, if the first has no errors
abbrev Follows : {A : Type 0} → Done A → Done A → Type 0
Follows a b = a.errors ≡ [] → a ≡ b

then-follows : {A B : Type 0} {x x' : Done A} (f f' : A → Budget → Done B) → Follows x x' → Follows (f x.value x.budget) (f' x.value x.budget) → Follows (and_then x f) (and_then x' f')
then-follows {x = x} f f' p q = λ none.
    then-same f f' (p (front-none x.errors (f x.value x.budget).errors none)) (q (back-none x.errors (f x.value x.budget).errors none))

mapped-follows : {A B : Type 0} (f : A → B) {x x' : Done A} → Follows x x' → Follows (mapped f x) (mapped f x')
mapped-follows f p = λ none. ap (mapped f) (p none)

if-follows : {A : Type 0} (c : Bool) (x : Done A) {y y' : Done A} → Follows y y' → Follows (cond c x y) (cond c x y')
if-follows true x p = λ none. refl
if-follows false x p = p

entering-follows : {A : Type 0} {x x' : Done A} → Follows x x' → Follows (entering x) (entering x')
entering-follows p = λ none. ap entering (p none)

if-errors : (c : Bool) (f : Text → Text) (a : Done Text) → (cond c (mapped f a) a).errors ≡ a.errors
if-errors true f a = refl
if-errors false f a = refl

module _ {S F : Type 0} (env : Environment S F) (args : List (Text × Value S)) where
  abbrev Locals : Type 0
  Locals = Option (List (Text × Value S))

  -- the same place without arguments, and with them
  abbrev bare : Locals → List Elements → Surroundings S
  bare locals path = record { arguments = []; locals = locals; path = path }

  abbrev given : Locals → List Elements → Surroundings S
  given locals path = record { arguments = args; locals = locals; path = path }

  -- a way to write that follows whatever arguments come
  abbrev AreUnasked : {A : Type 0} → Writer env A → Type 0
  AreUnasked {A} write = (a : A) (locals : Locals) (path : List Elements) (b : Budget) → Follows (write a (bare locals path) b) (write a (given locals path) b)

  variable-written : (id : Text) (locals : Locals) (path : List Elements) (b : Budget) →
      Follows (s.variable_written env id (s.variable env id (bare locals path)) (bare locals path) b) (s.variable_written env id (s.variable env id (given locals path)) (given locals path) b)
  variable-written id None path b = λ none. absurd cc
  variable-written id (Some l) path b = same (argument id l)
    where
      same : (o : Option (Value S)) → Follows (s.variable_written env id o (bare (Some l) path) b) (s.variable_written env id o (given (Some l) path) b)
      same None = λ none. refl
      same (Some v) = λ none. refl

  variable-found : (id : Text) (locals : Locals) (path : List Elements) (b : Budget) →
      Follows (s.variable_found env id (s.variable env id (bare locals path)) (bare locals path) b) (s.variable_found env id (s.variable env id (given locals path)) (given locals path) b)
  variable-found id None path b = λ none. absurd cc
  variable-found id (Some l) path b = same (argument id l)
    where
      same : (o : Option (Value S)) → Follows (s.variable_found env id o (bare (Some l) path) b) (s.variable_found env id o (given (Some l) path) b)
      same None = λ none. refl
      same (Some v) = λ none. refl

  module _ (enter : Writer env Elements) (unasked : AreUnasked enter) where
    target-unasked : (i : Inline) (o : Target) (locals : Locals) (path : List Elements) (b : Budget) → Follows (s.target_written env enter i o (bare locals path) b) (s.target_written env enter i o (given locals path) b)
    target-unasked i (there es) locals path b = if-follows (is_on_path es path) (s.fallen_back env i _ b) (entering-follows (unasked es locals (path ++ es ∷ []) b))
    target-unasked i (missing e) locals path b = λ none. refl

    variant-unasked : (o : Option Elements) (locals : Locals) (path : List Elements) (b : Budget) → Follows (s.variant_written env enter o (bare locals path) b) (s.variant_written env enter o (given locals path) b)
    variant-unasked None locals path b = λ none. refl
    variant-unasked (Some es) locals path b = entering-follows (unasked es locals path b)

    term-unasked : (i : Inline) (id : Text) (attr : Option Text) (l : Locals) (p : List Elements) {x x' : Done (Called S)} → Follows x x' →
        Follows (and_then x (λ called c. s.target_written env enter i (s.term_target id attr (env.find id)) (s.in_term called.named (bare l p)) c))
        (and_then x' (λ called c. s.target_written env enter i (s.term_target id attr (env.find id)) (s.in_term called.named (given l p)) c))
    term-unasked i id attr l p {x = x} h =
        then-follows (λ called c. s.target_written env enter i (s.term_target id attr (env.find id)) (s.in_term called.named (bare l p)) c)
        (λ called c. s.target_written env enter i (s.term_target id attr (env.find id)) (s.in_term called.named (given l p)) c) h
        (target-unasked i (s.term_target id attr (env.find id)) (Some x.value.named) p x.budget)

    mutual
      unfolding s.expression_with s.inline_with s.value_with s.maybe_arguments_with s.arguments_with s.positional_with s.named_with

      expression-unasked : (e : Expression) (l : Locals) (p : List Elements) (b : Budget) → Follows (s.expression_with env enter e (bare l p) b) (s.expression_with env enter e (given l p) b)
      expression-unasked (inline i) l p b = inline-unasked i l p b
      expression-unasked (select i vs) l p b =
          let x = s.value_with env enter i (bare l p) b in
          then-follows (λ v c. s.variant_written env enter (chosen env.plurals v vs) (bare l p) c) (λ v c. s.variant_written env enter (chosen env.plurals v vs) (given l p) c) (value-unasked i l p b)
          (variant-unasked (chosen env.plurals x.value vs) l p x.budget)

      inline-unasked : (i : Inline) (l : Locals) (p : List Elements) (b : Budget) → Follows (s.inline_with env enter i (bare l p) b) (s.inline_with env enter i (given l p) b)
      inline-unasked (t.string_literal x) l p b = λ none. refl
      inline-unasked (t.number_literal x) l p b = λ none. refl
      inline-unasked (t.function_reference id args') l p b =
          then-follows (λ called c. s.call_written env (t.function_reference id args') id (env.find id) called c) (λ called c. s.call_written env (t.function_reference id args') id (env.find id) called c)
          (arguments-unasked args' l p b) (λ none. refl)
      inline-unasked (t.message_reference id attr) l p b = target-unasked (t.message_reference id attr) (s.message_target id attr (env.find id)) l p b
      inline-unasked (t.term_reference id attr args') l p b = term-unasked (t.term_reference id attr args') id attr l p (maybe_arguments-unasked args' l p b)
      inline-unasked (t.variable_reference id) l p b = variable-written id l p b
      inline-unasked (t.nested e) l p b = expression-unasked e l p b

      value-unasked : (i : Inline) (l : Locals) (p : List Elements) (b : Budget) → Follows (s.value_with env enter i (bare l p) b) (s.value_with env enter i (given l p) b)
      value-unasked (t.string_literal x) l p b = λ none. refl
      value-unasked (t.number_literal x) l p b = λ none. refl
      value-unasked (t.function_reference id args') l p b =
          then-follows (λ called c. s.call_found env (env.find id) called c) (λ called c. s.call_found env (env.find id) called c) (arguments-unasked args' l p b) (λ none. refl)
      value-unasked (t.message_reference id attr) l p b = mapped-follows v.text (target-unasked (t.message_reference id attr) (s.message_target id attr (env.find id)) l p b)
      value-unasked (t.term_reference id attr args') l p b = mapped-follows v.text (term-unasked (t.term_reference id attr args') id attr l p (maybe_arguments-unasked args' l p b))
      value-unasked (t.variable_reference id) l p b = variable-found id l p b
      value-unasked (t.nested e) l p b = mapped-follows v.text (expression-unasked e l p b)

      maybe_arguments-unasked : (args' : MaybeArguments) (l : Locals) (p : List Elements) (b : Budget) → Follows (s.maybe_arguments_with env enter args' (bare l p) b) (s.maybe_arguments_with env enter args' (given l p) b)
      maybe_arguments-unasked no_arguments l p b = λ none. refl
      maybe_arguments-unasked (with_arguments args') l p b = arguments-unasked args' l p b

      arguments-unasked : (args' : Arguments) (l : Locals) (p : List Elements) (b : Budget) → Follows (s.arguments_with env enter args' (bare l p) b) (s.arguments_with env enter args' (given l p) b)
      arguments-unasked (arguments ps ns) l p b =
          let x = s.positional_with env enter ps (bare l p) b in
          then-follows (λ vs c. mapped (s.both vs) (s.named_with env enter ns (bare l p) c)) (λ vs c. mapped (s.both vs) (s.named_with env enter ns (given l p) c)) (positional-unasked ps l p b)
          (mapped-follows (s.both x.value) (named-unasked ns l p x.budget))

      positional-unasked : (ps : Inlines) (l : Locals) (p : List Elements) (b : Budget) → Follows (s.positional_with env enter ps (bare l p) b) (s.positional_with env enter ps (given l p) b)
      positional-unasked no_inlines l p b = λ none. refl
      positional-unasked (positional e ps) l p b =
          let x = s.value_with env enter e (bare l p) b in
          then-follows (λ v c. mapped (λ vs. v ∷ vs) (s.positional_with env enter ps (bare l p) c)) (λ v c. mapped (λ vs. v ∷ vs) (s.positional_with env enter ps (given l p) c)) (value-unasked e l p b)
          (mapped-follows (λ vs. x.value ∷ vs) (positional-unasked ps l p x.budget))

      named-unasked : (ns : Nameds) (l : Locals) (p : List Elements) (b : Budget) → Follows (s.named_with env enter ns (bare l p) b) (s.named_with env enter ns (given l p) b)
      named-unasked no_nameds l p b = λ none. refl
      named-unasked (named y e ns) l p b =
          let x = s.value_with env enter e (bare l p) b in
          then-follows (λ v c. mapped (λ pairs. (y, v) ∷ pairs) (s.named_with env enter ns (bare l p) c)) (λ v c. mapped (λ pairs. (y, v) ∷ pairs) (s.named_with env enter ns (given l p) c)) (value-unasked e l p b)
          (mapped-follows (λ pairs. (y, x.value) ∷ pairs) (named-unasked ns l p x.budget))

  module _ (write : Writer env Expression) (unasked : AreUnasked write) where
    marked-errors : (isolated : Bool) (e : Expression) (a : Done Text) → (opening (s.surrounded env isolated (s.closed env e a))).errors ≡ a.errors
    marked-errors isolated e a =
        if-errors isolated (λ x. encode_utf8 0x2068 ++ (x ++ encode_utf8 0x2069)) (s.closed env e a) ∙ if-errors (is_shut a.budget) (λ x. x ++ braced (fallback e)) a

    placeable-unasked : (whole : Elements) (e : Expression) (l : Locals) (p : List Elements) (b : Budget) → Follows (s.placeable_with env write whole e (bare l p) b) (s.placeable_with env write whole e (given l p) b)
    placeable-unasked whole e l p shut = λ none. refl
    placeable-unasked whole e l p (may_open zero) = λ none. refl
    placeable-unasked whole e l p (may_open (suc k)) = λ none.
        ap (λ a. opening (s.surrounded env (s.is_isolated env whole e) (s.closed env e a)))
        (unasked e l (rooted_path whole p) (may_open k) (sym (marked-errors (s.is_isolated env whole e) e (write e (bare l (rooted_path whole p)) (may_open k))) ∙ none))

    elements-unasked : (whole es : Elements) (l : Locals) (p : List Elements) (b : Budget) → Follows (s.elements_with env write whole es (bare l p) b) (s.elements_with env write whole es (given l p) b)
    unfolding s.elements_with
    elements-unasked whole no_elements l p b = λ none. refl
    elements-unasked whole (t.text x es) l p b =
        let y = s.text_written env x b in
        then-follows (λ q c. mapped (λ r. q ++ r) (s.elements_with env write whole es (bare l p) c)) (λ q c. mapped (λ r. q ++ r) (s.elements_with env write whole es (given l p) c)) (λ none. refl)
        (mapped-follows (λ r. y.value ++ r) (elements-unasked whole es l p y.budget))
    elements-unasked whole (t.placeable e es) l p b =
        let y = s.placeable_with env write whole e (bare l p) b in
        then-follows (λ q c. mapped (λ r. q ++ r) (s.elements_with env write whole es (bare l p) c)) (λ q c. mapped (λ r. q ++ r) (s.elements_with env write whole es (given l p) c)) (placeable-unasked whole e l p b)
        (mapped-follows (λ r. y.value ++ r) (elements-unasked whole es l p y.budget))

  pattern_at-unasked : (d : ℕ) → AreUnasked (s.pattern_at env d)
  unfolding s.pattern_at
  pattern_at-unasked zero = λ es l p b. elements-unasked (λ e p c. done [] c) (λ e l p c none. refl) es es l p b
  pattern_at-unasked (suc d) = λ es l p b. elements-unasked (s.expression_with env (s.pattern_at env d)) (expression-unasked (s.pattern_at env d) (pattern_at-unasked d)) es es l p b

pub needs-no-arguments : {S F : Type 0} → NeedsNoArguments S F
unfolding s.pattern_written
needs-no-arguments env k es none args = entering-follows (pattern_at-unasked env args k es None [] (may_open k)) none
