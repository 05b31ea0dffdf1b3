-- A step leaves as many placeables to open as it had, less those that it opened.
use Rattle.std.proofs.Common.{◌≡◌, ℕ, zero, suc, ◌+◌, ◌≤◌, Bool, true, false, cond, List, [], ◌∷◌, Option, Some, None, arith}
use Rattle.std.specs.Prelude.{is_some, ◌++◌, ◌&&◌, not, encode_utf8}
use Rattle.fluent_meaning.specs.Choice.{chosen}
use Rattle.fluent_meaning.specs.Fallback.{braced, fallback}
use Rattle.std.proofs.Math.Nat.{le_refl, le_trans, le-suc}
use Rattle.fluent_grammar.specs.Words.{Text}
use Rattle.fluent_grammar.specs.Tree as t
use Rattle.fluent_grammar.specs.Tree.{Elements, no_elements, Expression, select, inline, Inline, Arguments, arguments, Inlines, no_inlines, positional, Nameds, no_nameds, named, MaybeArguments, no_arguments, with_arguments}
use Rattle.fluent_errors.specs.Errors.{Unresolved}
use Rattle.fluent_value.specs.Value as v
use Rattle.fluent_value.specs.Value.{Value}
use Rattle.fluent_meaning.specs.Environment.{Environment}
use Rattle.fluent_meaning.specs.Ids.{Meaning, number_function, function, message, term}
use Rattle.fluent_meaning.specs.Steps.{Budget, may_open, shut, left, is_shut, Done, done, and_then, mapped, entering}
use Rattle.fluent_meaning.specs.Substitution as s
use Rattle.fluent_meaning.specs.Substitution.{Surroundings, Called, Target, there, missing, is_on_path, deeper, Writer}

pub record Falls {A : Type 0} (b : Budget) (a : Done A) : Type 0 where
  -- none that may be opened is lost
  pub sum : a.opened + left a.budget ≡ left b
  -- so no more are left than there were
  pub le : left a.budget ≤ left b

none_opened : (n : ℕ) → 0 + n ≡ n
none_opened n = omega arith

opened_then : (m n k l c : ℕ) → m + k ≡ c → n + l ≡ k → (m + n) + l ≡ c
opened_then m n k l c h e = omega (arith, h, e)

one_opened : (m k n : ℕ) → m + k ≡ n → suc m + k ≡ suc n
one_opened m k n h = omega (arith, h)

pub falls-done : {A : Type 0} {v : A} {e : List Unresolved} {n : ℕ} (b : Budget) → Falls b (record { value = v; errors = e; budget = b; opened = 0; entered = n })
falls-done b = record { sum = none_opened (left b); le = le_refl (left b) }

pub falls-then : {A B : Type 0} {b : Budget} {x : Done A} (f : A → Budget → Done B) → Falls b x → ((v : A) (c : Budget) → Falls c (f v c)) → Falls b (and_then x f)
falls-then {b = b} {x = x} f p q =
    let y = f x.value x.budget in
    record { sum = opened_then x.opened y.opened (left x.budget) (left y.budget) (left b) p.sum (q x.value x.budget).sum; le = le_trans (q x.value x.budget).le p.le }

pub falls-mapped : {A B : Type 0} {b : Budget} {x : Done A} (f : A → B) → Falls b x → Falls b (mapped f x)
falls-mapped f p = record { sum = p.sum; le = p.le }

pub falls-entering : {A : Type 0} {b : Budget} {x : Done A} → Falls b x → Falls b (entering x)
falls-entering p = record { sum = p.sum; le = p.le }

pub falls-if : {A : Type 0} {b : Budget} (c : Bool) {x y : Done A} → Falls b x → Falls b y → Falls b (cond c x y)
falls-if true p q = p
falls-if false p q = q

module _ {S F : Type 0} (env : Environment S F) (enter : Writer env Elements) (enters : (es : Elements) (place : Surroundings S) (b : Budget) → Falls b (enter es place b)) where
  pub referred-falls : (i : Inline) (es : Elements) (place : Surroundings S) (b : Budget) → Falls b (s.referred env enter i es place b)
  referred-falls i es place b = falls-if (is_on_path es place.path) (falls-done b) (falls-entering (enters es (deeper es place) b))

  pub target-falls : (i : Inline) (o : Target) (place : Surroundings S) (b : Budget) → Falls b (s.target_written env enter i o place b)
  target-falls i (there es) place b = referred-falls i es place b
  target-falls i (missing e) place b = falls-done b

  pub variant-falls : (o : Option Elements) (place : Surroundings S) (b : Budget) → Falls b (s.variant_written env enter o place b)
  variant-falls None place b = falls-done b
  variant-falls (Some es) place b = falls-entering (enters es place b)

pub variable_written-falls : {S F : Type 0} (env : Environment S F) (id : Text) (o : Option (Value S)) (place : Surroundings S) (b : Budget) → Falls b (s.variable_written env id o place b)
variable_written-falls env id (Some v) place b = falls-done b
variable_written-falls env id None place b = falls-if (is_some place.locals) (falls-done b) (falls-done b)

pub variable_found-falls : {S F : Type 0} (env : Environment S F) (id : Text) (o : Option (Value S)) (place : Surroundings S) (b : Budget) → Falls b (s.variable_found env id o place b)
variable_found-falls env id (Some v) place b = falls-done b
variable_found-falls env id None place b = falls-if (is_some place.locals) (falls-done b) (falls-done b)

pub result-falls : {S F : Type 0} (env : Environment S F) (id : Text) (r : Value S) (b : Budget) → Falls b (s.result_written env id r b)
result-falls env id (v.text x) b = falls-done b
result-falls env id (v.number x) b = falls-done b
result-falls env id (v.custom x) b = falls-done b
result-falls env id v.none b = falls-done b
result-falls env id v.error b = falls-done b

pub call_written-falls : {S F : Type 0} (env : Environment S F) (i : Inline) (id : Text) (o : Option (Meaning F)) (args : Called S) (b : Budget) → Falls b (s.call_written env i id o args b)
call_written-falls env i id None args b = falls-done b
call_written-falls env i id (Some number_function) args b = result-falls env id _ b
call_written-falls env i id (Some (function f)) args b = result-falls env id _ b
call_written-falls env i id (Some (message m)) args b = falls-done b
call_written-falls env i id (Some (term m)) args b = falls-done b

pub call_found-falls : {S F : Type 0} (env : Environment S F) (o : Option (Meaning F)) (args : Called S) (b : Budget) → Falls b (s.call_found env o args b)
call_found-falls env None args b = falls-done b
call_found-falls env (Some number_function) args b = falls-done b
call_found-falls env (Some (function f)) args b = falls-done b
call_found-falls env (Some (message m)) args b = falls-done b
call_found-falls env (Some (term m)) args b = falls-done b

module _ {S F : Type 0} (env : Environment S F) (enter : Writer env Elements) (enters : (es : Elements) (place : Surroundings S) (b : Budget) → Falls b (enter es place b)) where
  mutual
    unfolding s.expression_with s.inline_with s.value_with s.maybe_arguments_with s.arguments_with s.positional_with s.named_with

    pub expression-falls : (e : Expression) (place : Surroundings S) (b : Budget) → Falls b (s.expression_with env enter e place b)
    expression-falls (inline i) place b = inline-falls i place b
    expression-falls (select i vs) place b = falls-then (λ v c. s.variant_written env enter (chosen env.plurals v vs) place c) (value-falls i place b) (λ v c. variant-falls env enter enters (chosen env.plurals v vs) place c)

    pub inline-falls : (i : Inline) (place : Surroundings S) (b : Budget) → Falls b (s.inline_with env enter i place b)
    inline-falls (t.string_literal x) place b = falls-done b
    inline-falls (t.number_literal x) place b = falls-done b
    inline-falls (t.function_reference id args) place b = falls-then (λ called c. s.call_written env (t.function_reference id args) id (env.find id) called c) (arguments-falls args place b) (call_written-falls env (t.function_reference id args) id (env.find id))
    inline-falls (t.message_reference id attr) place b = target-falls env enter enters (t.message_reference id attr) (s.message_target id attr (env.find id)) place b
    inline-falls (t.term_reference id attr args) place b = falls-then (λ called c. s.target_written env enter (t.term_reference id attr args) (s.term_target id attr (env.find id)) (s.in_term called.named place) c) (maybe_arguments-falls args place b) (λ called c. target-falls env enter enters (t.term_reference id attr args) (s.term_target id attr (env.find id)) (s.in_term called.named place) c)
    inline-falls (t.variable_reference id) place b = variable_written-falls env id (s.variable env id place) place b
    inline-falls (t.nested e) place b = expression-falls e place b

    pub value-falls : (i : Inline) (place : Surroundings S) (b : Budget) → Falls b (s.value_with env enter i place b)
    value-falls (t.string_literal x) place b = falls-done b
    value-falls (t.number_literal x) place b = falls-done b
    value-falls (t.function_reference id args) place b = falls-then (λ called c. s.call_found env (env.find id) called c) (arguments-falls args place b) (call_found-falls env (env.find id))
    value-falls (t.message_reference id attr) place b = falls-mapped v.text (target-falls env enter enters (t.message_reference id attr) (s.message_target id attr (env.find id)) place b)
    value-falls (t.term_reference id attr args) place b = falls-mapped v.text (falls-then (λ called c. s.target_written env enter (t.term_reference id attr args) (s.term_target id attr (env.find id)) (s.in_term called.named place) c) (maybe_arguments-falls args place b) (λ called c. target-falls env enter enters (t.term_reference id attr args) (s.term_target id attr (env.find id)) (s.in_term called.named place) c))
    value-falls (t.variable_reference id) place b = variable_found-falls env id (s.variable env id place) place b
    value-falls (t.nested e) place b = falls-mapped v.text (expression-falls e place b)

    pub maybe_arguments-falls : (args : MaybeArguments) (place : Surroundings S) (b : Budget) → Falls b (s.maybe_arguments_with env enter args place b)
    maybe_arguments-falls no_arguments place b = falls-done b
    maybe_arguments-falls (with_arguments args) place b = arguments-falls args place b

    pub arguments-falls : (args : Arguments) (place : Surroundings S) (b : Budget) → Falls b (s.arguments_with env enter args place b)
    arguments-falls (arguments ps ns) place b = falls-then (λ vs c. mapped (s.both vs) (s.named_with env enter ns place c)) (positional-falls ps place b) (λ vs c. falls-mapped (s.both vs) (named-falls ns place c))

    pub positional-falls : (ps : Inlines) (place : Surroundings S) (b : Budget) → Falls b (s.positional_with env enter ps place b)
    positional-falls no_inlines place b = falls-done b
    positional-falls (positional e ps) place b = falls-then (λ v c. mapped (λ vs. v ∷ vs) (s.positional_with env enter ps place c)) (value-falls e place b) (λ v c. falls-mapped (λ vs. v ∷ vs) (positional-falls ps place c))

    pub named-falls : (ns : Nameds) (place : Surroundings S) (b : Budget) → Falls b (s.named_with env enter ns place b)
    named-falls no_nameds place b = falls-done b
    named-falls (named x e ns) place b = falls-then (λ v c. mapped (λ pairs. (x, v) ∷ pairs) (s.named_with env enter ns place c)) (value-falls e place b) (λ v c. falls-mapped (λ pairs. (x, v) ∷ pairs) (named-falls ns place c))

module _ {S F : Type 0} (env : Environment S F) (write : Writer env Expression) (writes : (e : Expression) (place : Surroundings S) (b : Budget) → Falls b (write e place b)) where
  pub closed-falls : (e : Expression) {b : Budget} {a : Done Text} → Falls b a → Falls b (s.closed env e a)
  closed-falls e {b} {a} p = falls-if (is_shut a.budget) (falls-mapped (λ x. x ++ braced (fallback e)) p) p

  pub surrounded-falls : (c : Bool) {b : Budget} {a : Done Text} → Falls b a → Falls b (s.surrounded env c a)
  surrounded-falls c p = falls-if c (falls-mapped (λ x. encode_utf8 0x2068 ++ (x ++ encode_utf8 0x2069)) p) p

  pub placeable-falls : (whole : Elements) (e : Expression) (place : Surroundings S) (b : Budget) → Falls b (s.placeable_with env write whole e place b)
  placeable-falls whole e place shut = falls-done shut
  placeable-falls whole e place (may_open zero) = record { sum = none_opened 0; le = le_refl 0 }
  placeable-falls whole e place (may_open (suc k)) =
      let p = surrounded-falls (env.isolating && (s.several whole && not (s.stands_bare e))) (closed-falls e (writes e (s.rooted whole place) (may_open k))) in
      let a = s.surrounded env (s.is_isolated env whole e) (s.unmarked_with env write whole e place (may_open k)) in
      record { sum = one_opened a.opened (left a.budget) k p.sum; le = le_trans p.le (le-suc k) }

  pub text-falls : (x : Text) (b : Budget) → Falls b (s.text_written env x b)
  text-falls x (may_open k) = falls-done (may_open k)
  text-falls x shut = falls-done shut

  pub elements-falls : (whole es : Elements) (place : Surroundings S) (b : Budget) → Falls b (s.elements_with env write whole es place b)
  unfolding s.elements_with
  elements-falls whole no_elements place b = falls-done b
  elements-falls whole (t.text x es) place b = falls-then (λ r c. mapped (λ q. r ++ q) (s.elements_with env write whole es place c)) (text-falls x b) (λ r c. falls-mapped (λ q. r ++ q) (elements-falls whole es place c))
  elements-falls whole (t.placeable e es) place b = falls-then (λ r c. mapped (λ q. r ++ q) (s.elements_with env write whole es place c)) (placeable-falls whole e place b) (λ r c. falls-mapped (λ q. r ++ q) (elements-falls whole es place c))

module _ {S F : Type 0} (env : Environment S F) where
  pub pattern_at-falls : (d : ℕ) (es : Elements) (place : Surroundings S) (b : Budget) → Falls b (s.pattern_at env d es place b)
  unfolding s.pattern_at
  pattern_at-falls zero es place b = elements-falls env (λ e p c. done [] c) (λ e p c. falls-done c) es es place b
  pattern_at-falls (suc d) es place b = elements-falls env _ (expression-falls env (s.pattern_at env d) (pattern_at-falls d)) es es place b

  pub pattern-falls : (es : Elements) (place : Surroundings S) (b : Budget) → Falls b (s.pattern_written env es place b)
  unfolding s.pattern_written
  pattern-falls es place b = pattern_at-falls (left b) es place b
