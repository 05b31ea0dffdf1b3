-- Too many placeables are told exactly where the budget is shut, and once shut it stays so.
use Rattle.std.proofs.Common.{◌≡◌, ℕ, zero, suc, ◌+◌, ◌≤◌, Bool, true, false, cond, List, [], ◌∷◌, ◌++◌, Option, Some, None, refl, ap, sym, ◌∙◌, arith}
use Rattle.std.specs.Prelude.{◌&&◌, not, is_some, encode_utf8}
use Rattle.fluent_grammar.specs.Words.{Text}
use Rattle.fluent_grammar.specs.Tree as t
use Rattle.fluent_grammar.specs.Tree.{Elements, no_elements, Expression, select, inline, Inline, Arguments, arguments, Inlines, no_inlines, positional, Nameds, no_nameds, named, MaybeArguments, no_arguments, with_arguments}
use Rattle.fluent_errors.specs.Errors.{Unresolved, unknown, no_value, missing_default, cyclic, too_many_placeables, to_message, to_term}
use Rattle.fluent_value.specs.Value as v
use Rattle.fluent_value.specs.Value.{Value}
use Rattle.fluent_meaning.specs.Choice.{chosen}
use Rattle.fluent_meaning.specs.Environment.{Environment}
use Rattle.fluent_meaning.specs.Fallback.{braced, fallback}
use Rattle.fluent_meaning.specs.Ids.{Meaning, number_function, function, message, term, attribute_named}
use Rattle.fluent_meaning.specs.Steps.{Budget, may_open, shut, left, is_shut, Done, done, and_then, mapped, entering}
use Rattle.fluent_meaning.specs.Substitution as s
use Rattle.fluent_meaning.specs.Substitution.{Surroundings, Called, Target, there, missing, there_or, is_on_path, deeper, Writer, outset}
use Rattle.fluent_meaning.specs.Work.{times_too_many}
use Rattle.fluent_meaning.specs.WorkLaws.{times_shut, Opens, OpensWithinBudget}
use Rattle.fluent_meaning.proofs.Falls.{Falls, closed-falls, referred-falls, expression-falls, maybe_arguments-falls, pattern-falls}

-- as often as the budget was shut
pub record Tells {A : Type 0} (b : Budget) (a : Done A) : Type 0 where
  pub same : times_too_many a.errors + times_shut b ≡ times_shut a.budget

plus_none : (n : ℕ) → 0 + n ≡ n
plus_none n = omega arith

one_more : (m n p : ℕ) → m ≡ n + p → suc m ≡ suc n + p
one_more m n p h = omega (arith, h)

pub times-append : (xs ys : List Unresolved) → times_too_many (xs ++ ys) ≡ times_too_many xs + times_too_many ys
times-append [] ys = sym (plus_none (times_too_many ys))
times-append (unknown r ∷ xs) ys = times-append xs ys
times-append (no_value id ∷ xs) ys = times-append xs ys
times-append (missing_default ∷ xs) ys = times-append xs ys
times-append (cyclic ∷ xs) ys = times-append xs ys
times-append (too_many_placeables ∷ xs) ys = one_more (times_too_many (xs ++ ys)) (times_too_many xs) (times_too_many ys) (times-append xs ys)

sum_tells : (all m n b c d : ℕ) → all ≡ m + n → m + b ≡ c → n + c ≡ d → all + b ≡ d
sum_tells all m n b c d e h k = omega (arith, e, h, k)

none_tells : (m n : ℕ) → m ≡ 0 → m + n ≡ n
none_tells m n h = omega (arith, h)

pub tells-done : {A : Type 0} {v : A} {o n : ℕ} (b : Budget) → Tells b (record { value = v; errors = []; budget = b; opened = o; entered = n })
tells-done b = record { same = plus_none (times_shut b) }

pub tells-error : {A : Type 0} {v : A} {o n : ℕ} (e : Unresolved) (b : Budget) → times_too_many (e ∷ []) ≡ 0 → Tells b (record { value = v; errors = e ∷ []; budget = b; opened = o; entered = n })
tells-error e b h = record { same = none_tells (times_too_many (e ∷ [])) (times_shut b) h }

pub tells-then : {A B : Type 0} {b : Budget} {x : Done A} (f : A → Budget → Done B) → Tells b x → ((v : A) (c : Budget) → Tells c (f v c)) → Tells b (and_then x f)
tells-then {b = b} {x = x} f p q =
    let y = f x.value x.budget in
    record { same = sum_tells (times_too_many (x.errors ++ y.errors)) (times_too_many x.errors) (times_too_many y.errors) (times_shut b) (times_shut x.budget) (times_shut y.budget) (times-append x.errors y.errors) p.same (q x.value x.budget).same }

pub tells-mapped : {A B : Type 0} {b : Budget} {x : Done A} (f : A → B) → Tells b x → Tells b (mapped f x)
tells-mapped f p = record { same = p.same }

pub tells-entering : {A : Type 0} {b : Budget} {x : Done A} → Tells b x → Tells b (entering x)
tells-entering p = record { same = p.same }

pub tells-if : {A : Type 0} {b : Budget} (c : Bool) {x y : Done A} → Tells b x → Tells b y → Tells b (cond c x y)
tells-if true p q = p
tells-if false p q = q

-- why there is no pattern is never that there are too many placeables
abbrev pub target_times : Target → ℕ
target_times (there es) = 0
target_times (missing e) = times_too_many (e ∷ [])

pub there_or-times : (e : Unresolved) (o : Option Elements) → times_too_many (e ∷ []) ≡ 0 → target_times (there_or e o) ≡ 0
there_or-times e None h = h
there_or-times e (Some es) h = refl

pub message-times : {F : Type 0} (id : Text) (attr : Option Text) (o : Option (Meaning F)) → target_times (s.message_target id attr o) ≡ 0
message-times id attr None = refl
message-times id attr (Some number_function) = refl
message-times id attr (Some (function f)) = refl
message-times id attr (Some (term m)) = refl
message-times id None (Some (message m)) = there_or-times (no_value id) m.value refl
message-times id (Some a) (Some (message m)) = there_or-times (unknown (to_message id (Some a))) (attribute_named a m.attributes) refl

pub term-times : {F : Type 0} (id : Text) (attr : Option Text) (o : Option (Meaning F)) → target_times (s.term_target id attr o) ≡ 0
term-times id attr None = refl
term-times id attr (Some number_function) = refl
term-times id attr (Some (function f)) = refl
term-times id attr (Some (message m)) = refl
term-times id None (Some (term m)) = refl
term-times id (Some a) (Some (term m)) = there_or-times (unknown (to_term id (Some a))) (attribute_named a m.attributes) refl

module _ {S F : Type 0} (env : Environment S F) where
  pub variable_written-tells : (id : Text) (o : Option (Value S)) (place : Surroundings S) (b : Budget) → Tells b (s.variable_written env id o place b)
  variable_written-tells id (Some v) place b = tells-done b
  variable_written-tells id None place b = tells-if (is_some place.locals) (tells-done b) (tells-error _ b refl)

  pub variable_found-tells : (id : Text) (o : Option (Value S)) (place : Surroundings S) (b : Budget) → Tells b (s.variable_found env id o place b)
  variable_found-tells id (Some v) place b = tells-done b
  variable_found-tells id None place b = tells-if (is_some place.locals) (tells-done b) (tells-error _ b refl)

  pub result-tells : (id : Text) (r : Value S) (b : Budget) → Tells b (s.result_written env id r b)
  result-tells id (v.text x) b = tells-done b
  result-tells id (v.number x) b = tells-done b
  result-tells id (v.custom x) b = tells-done b
  result-tells id v.none b = tells-done b
  result-tells id v.error b = tells-done b

  pub call_written-tells : (i : Inline) (id : Text) (o : Option (Meaning F)) (args : Called S) (b : Budget) → Tells b (s.call_written env i id o args b)
  call_written-tells i id None args b = tells-error _ b refl
  call_written-tells i id (Some number_function) args b = result-tells id _ b
  call_written-tells i id (Some (function f)) args b = result-tells id _ b
  call_written-tells i id (Some (message m)) args b = tells-error _ b refl
  call_written-tells i id (Some (term m)) args b = tells-error _ b refl

  pub call_found-tells : (o : Option (Meaning F)) (args : Called S) (b : Budget) → Tells b (s.call_found env o args b)
  call_found-tells None args b = tells-done b
  call_found-tells (Some number_function) args b = tells-done b
  call_found-tells (Some (function f)) args b = tells-done b
  call_found-tells (Some (message m)) args b = tells-done b
  call_found-tells (Some (term m)) args b = tells-done b

  pub closed-tells : (e : Expression) {b : Budget} {a : Done Text} → Tells b a → Tells b (s.closed env e a)
  closed-tells e {a = a} p = tells-if (is_shut a.budget) (tells-mapped (λ x. x ++ braced (fallback e)) p) p

  pub surrounded-tells : (c : Bool) {b : Budget} {a : Done Text} → Tells b a → Tells b (s.surrounded env c a)
  surrounded-tells c p = tells-if c (tells-mapped (λ x. encode_utf8 0x2068 ++ (x ++ encode_utf8 0x2069)) p) p

  pub text-tells : (x : Text) (b : Budget) → Tells b (s.text_written env x b)
  text-tells x (may_open k) = tells-done (may_open k)
  text-tells x shut = tells-done shut

  module _ (enter : Writer env Elements) (enters : (es : Elements) (place : Surroundings S) (b : Budget) → Tells b (enter es place b)) where
    pub target-tells : (i : Inline) (o : Target) (place : Surroundings S) (b : Budget) → target_times o ≡ 0 → Tells b (s.target_written env enter i o place b)
    target-tells i (there es) place b h = tells-if (is_on_path es place.path) (tells-error _ b refl) (tells-entering (enters es (deeper es place) b))
    target-tells i (missing e) place b h = tells-error e b h

    pub variant-tells : (o : Option Elements) (place : Surroundings S) (b : Budget) → Tells b (s.variant_written env enter o place b)
    variant-tells None place b = tells-error _ b refl
    variant-tells (Some es) place b = tells-entering (enters es place b)

    pub message-tells : (i : Inline) (id : Text) (attr : Option Text) (place : Surroundings S) (b : Budget) → Tells b (s.target_written env enter i (s.message_target id attr (env.find id)) place b)
    message-tells i id attr place b = target-tells i (s.message_target id attr (env.find id)) place b (message-times id attr (env.find id))

    pub term-tells : (i : Inline) (id : Text) (attr : Option Text) (place : Surroundings S) (b : Budget) → Tells b (s.target_written env enter i (s.term_target id attr (env.find id)) place b)
    term-tells i id attr place b = target-tells i (s.term_target id attr (env.find id)) place b (term-times id attr (env.find id))

    mutual
      unfolding s.expression_with s.inline_with s.value_with s.maybe_arguments_with s.arguments_with s.positional_with s.named_with

      pub expression-tells : (e : Expression) (place : Surroundings S) (b : Budget) → Tells b (s.expression_with env enter e place b)
      expression-tells (inline i) place b = inline-tells i place b
      expression-tells (select i vs) place b = tells-then (λ v c. s.variant_written env enter (chosen env.plurals v vs) place c) (value-tells i place b) (λ v c. variant-tells (chosen env.plurals v vs) place c)

      pub inline-tells : (i : Inline) (place : Surroundings S) (b : Budget) → Tells b (s.inline_with env enter i place b)
      inline-tells (t.string_literal x) place b = tells-done b
      inline-tells (t.number_literal x) place b = tells-done b
      inline-tells (t.function_reference id args) place b = tells-then (λ called c. s.call_written env (t.function_reference id args) id (env.find id) called c) (arguments-tells args place b) (call_written-tells (t.function_reference id args) id (env.find id))
      inline-tells (t.message_reference id attr) place b = message-tells (t.message_reference id attr) id attr place b
      inline-tells (t.term_reference id attr args) place b =
          tells-then (λ called c. s.target_written env enter (t.term_reference id attr args) (s.term_target id attr (env.find id)) (s.in_term called.named place) c) (maybe_arguments-tells args place b)
          (λ called c. term-tells (t.term_reference id attr args) id attr (s.in_term called.named place) c)
      inline-tells (t.variable_reference id) place b = variable_written-tells id (s.variable env id place) place b
      inline-tells (t.nested e) place b = expression-tells e place b

      pub value-tells : (i : Inline) (place : Surroundings S) (b : Budget) → Tells b (s.value_with env enter i place b)
      value-tells (t.string_literal x) place b = tells-done b
      value-tells (t.number_literal x) place b = tells-done b
      value-tells (t.function_reference id args) place b = tells-then (λ called c. s.call_found env (env.find id) called c) (arguments-tells args place b) (call_found-tells (env.find id))
      value-tells (t.message_reference id attr) place b = tells-mapped v.text (message-tells (t.message_reference id attr) id attr place b)
      value-tells (t.term_reference id attr args) place b =
          tells-mapped v.text (tells-then (λ called c. s.target_written env enter (t.term_reference id attr args) (s.term_target id attr (env.find id)) (s.in_term called.named place) c) (maybe_arguments-tells args place b)
          (λ called c. term-tells (t.term_reference id attr args) id attr (s.in_term called.named place) c))
      value-tells (t.variable_reference id) place b = variable_found-tells id (s.variable env id place) place b
      value-tells (t.nested e) place b = tells-mapped v.text (expression-tells e place b)

      pub maybe_arguments-tells : (args : MaybeArguments) (place : Surroundings S) (b : Budget) → Tells b (s.maybe_arguments_with env enter args place b)
      maybe_arguments-tells no_arguments place b = tells-done b
      maybe_arguments-tells (with_arguments args) place b = arguments-tells args place b

      pub arguments-tells : (args : Arguments) (place : Surroundings S) (b : Budget) → Tells b (s.arguments_with env enter args place b)
      arguments-tells (arguments ps ns) place b = tells-then (λ vs c. mapped (s.both vs) (s.named_with env enter ns place c)) (positional-tells ps place b) (λ vs c. tells-mapped (s.both vs) (named-tells ns place c))

      pub positional-tells : (ps : Inlines) (place : Surroundings S) (b : Budget) → Tells b (s.positional_with env enter ps place b)
      positional-tells no_inlines place b = tells-done b
      positional-tells (positional e ps) place b = tells-then (λ v c. mapped (λ vs. v ∷ vs) (s.positional_with env enter ps place c)) (value-tells e place b) (λ v c. tells-mapped (λ vs. v ∷ vs) (positional-tells ps place c))

      pub named-tells : (ns : Nameds) (place : Surroundings S) (b : Budget) → Tells b (s.named_with env enter ns place b)
      named-tells no_nameds place b = tells-done b
      named-tells (named x e ns) place b = tells-then (λ v c. mapped (λ pairs. (x, v) ∷ pairs) (s.named_with env enter ns place c)) (value-tells e place b) (λ v c. tells-mapped (λ pairs. (x, v) ∷ pairs) (named-tells ns place c))

  module _ (write : Writer env Expression) (writes : (e : Expression) (place : Surroundings S) (b : Budget) → Tells b (write e place b)) where
    pub placeable-tells : (whole : Elements) (e : Expression) (place : Surroundings S) (b : Budget) → Tells b (s.placeable_with env write whole e place b)
    placeable-tells whole e place shut = tells-done shut
    placeable-tells whole e place (may_open zero) = record { same = refl }
    placeable-tells whole e place (may_open (suc k)) =
        let p = surrounded-tells (env.isolating && (s.several whole && not (s.stands_bare e))) (closed-tells e (writes e (s.rooted whole place) (may_open k))) in record { same = p.same }

    pub elements-tells : (whole es : Elements) (place : Surroundings S) (b : Budget) → Tells b (s.elements_with env write whole es place b)
    unfolding s.elements_with
    elements-tells whole no_elements place b = tells-done b
    elements-tells whole (t.text x es) place b = tells-then (λ r c. mapped (λ q. r ++ q) (s.elements_with env write whole es place c)) (text-tells x b) (λ r c. tells-mapped (λ q. r ++ q) (elements-tells whole es place c))
    elements-tells whole (t.placeable e es) place b = tells-then (λ r c. mapped (λ q. r ++ q) (s.elements_with env write whole es place c)) (placeable-tells whole e place b) (λ r c. tells-mapped (λ q. r ++ q) (elements-tells whole es place c))

  pub pattern_at-tells : (d : ℕ) (es : Elements) (place : Surroundings S) (b : Budget) → Tells b (s.pattern_at env d es place b)
  unfolding s.pattern_at
  pattern_at-tells zero es place b = elements-tells (λ e p c. done [] c) (λ e p c. tells-done c) es es place b
  pattern_at-tells (suc d) es place b = elements-tells (s.expression_with env (s.pattern_at env d)) (expression-tells (s.pattern_at env d) (pattern_at-tells d)) es es place b

  pub pattern-tells : (es : Elements) (place : Surroundings S) (b : Budget) → Tells b (s.pattern_written env es place b)
  unfolding s.pattern_written
  pattern-tells es place b = pattern_at-tells (left b) es place b

at_most_one : (n : ℕ) (b : Budget) → n + 0 ≡ times_shut b → n ≤ 1
at_most_one n (may_open k) h = omega (arith, h)
at_most_one n shut h = omega (arith, h)

where_shut : (n : ℕ) (b : Budget) → n + 0 ≡ times_shut b → n ≡ 1 → b ≡ shut
where_shut n (may_open k) h e = absurd (omega (arith, h, e))
where_shut n shut h e = refl

shut_told : (n : ℕ) (b : Budget) → n + 0 ≡ times_shut b → b ≡ shut → n ≡ 1
shut_told n b h e = at (h ∙ ap times_shut e)
  where
    at : n + 0 ≡ 1 → n ≡ 1
    at h = omega (arith, h)

opened_within : (m l k : ℕ) → m + l ≡ k → m ≤ k
opened_within m l k h = omega (arith, h)

opens-both : {A : Type 0} {b : Budget} {a : Done A} → Falls b a → Tells b a → Opens b a
opens-both h k = record { counted = h.sum; told = k.same }

pub opens-within-budget : {S F : Type 0} → OpensWithinBudget S F
opens-within-budget env =
    let enter = s.pattern_written env in record {
      patterns = λ es place b. opens-both (pattern-falls env es place b) (pattern-tells env es place b);
      references = λ i es place b. opens-both (referred-falls env enter (pattern-falls env) i es place b) (target-tells env enter (pattern-tells env) i (there es) place b refl);
      expressions = λ e place b. opens-both (expression-falls env enter (pattern-falls env) e place b) (expression-tells env enter (pattern-tells env) e place b);
      arguments = λ args place b. opens-both (maybe_arguments-falls env enter (pattern-falls env) args place b) (maybe_arguments-tells env enter (pattern-tells env) args place b);
      unmarked = λ whole e place b. opens-both (closed-falls env (s.expression_written env) (expression-falls env enter (pattern-falls env)) e (expression-falls env enter (pattern-falls env) e (s.rooted whole place) b)) (closed-tells env e (expression-tells env enter (pattern-tells env) e (s.rooted whole place) b));
      requests = λ k args es. record { counted = (pattern-falls env es (outset args) (may_open k)).sum; told = (pattern-tells env es (outset args) (may_open k)).same };
      opened_at_most = λ k args es.
          let a = s.pattern_written env es (outset args) (may_open k) in opened_within a.opened (left a.budget) k (pattern-falls env es (outset args) (may_open k)).sum;
      told_once = λ k args es.
          let a = s.pattern_written env es (outset args) (may_open k) in at_most_one (times_too_many a.errors) a.budget (pattern-tells env es (outset args) (may_open k)).same;
      told_where_shut = λ k args es.
          let a = s.pattern_written env es (outset args) (may_open k) in
          let h = (pattern-tells env es (outset args) (may_open k)).same in (where_shut (times_too_many a.errors) a.budget h, shut_told (times_too_many a.errors) a.budget h);
    }
