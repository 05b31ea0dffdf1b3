-- What ends with placeables left to open has the same result without a limit, and such a result is one.
use Rattle.std.proofs.Common.{◌≡◌, ℕ, zero, suc, ◌+◌, ◌≤◌, ◌<◌, Bool, true, false, cond, List, [], ◌∷◌, ◌++◌, Option, Some, None, refl, ap, sym, subst, ◌∙◌, arith, append-nil}
use Rattle.std.specs.Prelude.{◌&&◌, not, encode_utf8}
use Rattle.std.proofs.Math.Nat.{le_refl, le_trans}
use Rattle.fluent_grammar.specs.Words.{Text}
use Rattle.fluent_grammar.specs.Tree as t
use Rattle.fluent_grammar.specs.Tree.{Elements, no_elements, Expression, select, inline, Variants, Inline, Arguments, arguments, Inlines, no_inlines, positional, Nameds, no_nameds, named, MaybeArguments, no_arguments, with_arguments}
use Rattle.fluent_errors.specs.Errors.{Unresolved, missing_default, cyclic}
use Rattle.fluent_value.specs.Value as v
use Rattle.fluent_value.specs.Value.{Value}
use Rattle.fluent_meaning.specs.Choice.{chosen}
use Rattle.fluent_meaning.specs.Environment.{Environment}
use Rattle.fluent_meaning.specs.Fallback.{braced, fallback}
use Rattle.fluent_meaning.specs.Steps.{Budget, may_open, shut, left, is_shut, Done, and_then, mapped, entering}
use Rattle.fluent_meaning.specs.Substitution as s
use Rattle.fluent_meaning.specs.Substitution.{Surroundings, Called, Target, there, missing, is_on_path, deeper, rooted}
use Rattle.fluent_meaning.specs.Unlimited as u
use Rattle.fluent_meaning.specs.Unlimited.{Gives, Writes, WritesInline, Refers, Finds, MayCall, Calls, FindsAll, FindsNamed}
use Rattle.fluent_meaning.specs.UnlimitedLaws.{Comes, Counted, OpenIsUnlimited, UnlimitedIsOne}
use Rattle.fluent_meaning.specs.Work.{times_too_many}
use Rattle.fluent_meaning.specs.WorkLaws.{times_shut}
use Rattle.fluent_meaning.proofs.Falls.{expression-falls, value-falls, positional-falls, maybe_arguments-falls, placeable-falls, pattern-falls}
use Rattle.fluent_meaning.proofs.Fixpoint.{pattern-is}
use Rattle.fluent_meaning.proofs.ToldOnce.{Tells, tells-mapped, call_written-tells, call_found-tells, variant-tells, term-tells, expression-tells, positional-tells, named-tells, elements-tells, pattern-tells}
use Rattle.fluent_meaning.proofs.UnlimitedStays.{variable_written-comes, variable_found-comes, call_written-comes, call_found-comes, gives-comes}

-- where a step ends with j of k placeables left, its value and errors are so, with the placeables between
record Reads {A : Type 0} (P : A → List Unresolved → ℕ → Type 0) (b : Budget) (a : Done A) : Type 0 where
  reads : (j k : ℕ) → b ≡ may_open k → a.budget ≡ may_open j → Counted (P a.value a.errors) j k

not_open : (k : ℕ) → shut ≡ may_open k → ⊥
not_open k e = let h = ap times_shut e in omega (arith, h)

none_used : (j k : ℕ) → may_open j ≡ may_open k → 0 + j ≡ k
none_used j k e = at (ap left e)
  where
    at : j ≡ k → 0 + j ≡ k
    at h = omega (arith, h)

used_then : (m n i j k : ℕ) → m + i ≡ k → n + j ≡ i → (m + n) + j ≡ k
used_then m n i j k h l = omega (arith, h, l)

no_more : (m : ℕ) → m ≡ m + 0
no_more m = omega arith

never_shut : (t c d : ℕ) → t + c ≡ d → c ≡ 1 → d ≡ 0 → ⊥
never_shut t c d h e f = omega (arith, h, e, f)

reads-map : {A B : Type 0} {P : A → List Unresolved → ℕ → Type 0} {Q : B → List Unresolved → ℕ → Type 0} {b : Budget} {x : Done A} (f : A → B) → ((v : A) (ys : List Unresolved) (n : ℕ) → P v ys n → Q (f v) ys n) → Reads P b x → Reads Q b (mapped f x)
reads-map {x = x} f g h = record { reads = λ j k e o. let p = h.reads j k e o in record { count = p.count; holds = g x.value x.errors p.count p.holds; sum = p.sum } }

reads-as : {A : Type 0} {P Q : A → List Unresolved → ℕ → Type 0} {b : Budget} {x : Done A} → ((v : A) (ys : List Unresolved) (n : ℕ) → P v ys n → Q v ys n) → Reads P b x → Reads Q b x
reads-as {x = x} g h = record { reads = λ j k e o. let p = h.reads j k e o in record { count = p.count; holds = g x.value x.errors p.count p.holds; sum = p.sum } }

reads-entering : {A : Type 0} {P : A → List Unresolved → ℕ → Type 0} {b : Budget} {x : Done A} → Reads P b x → Reads P b (entering x)
reads-entering h = record { reads = h.reads }

reads-none : {A : Type 0} {P : A → List Unresolved → ℕ → Type 0} {v : A} {xs : List Unresolved} {o n : ℕ} (b : Budget) → P v xs 0 → Reads P b (record { value = v; errors = xs; budget = b; opened = o; entered = n })
reads-none b p = record { reads = λ j k e o. record { count = 0; holds = p; sum = none_used j k (sym o ∙ e) } }

reads-by : {A : Type 0} {P : A → List Unresolved → ℕ → Type 0} {b : Budget} (a a' : Done A) → a' ≡ a → Reads P b a → Reads P b a'
reads-by {P = P} {b = b} a a' e h = subst (λ a. Reads P b a) (sym e) h

reads-comes : {A : Type 0} {P : A → List Unresolved → ℕ → Type 0} {v : A} {xs : List Unresolved} (a : Budget → Done A) → ((k : ℕ) → Comes v xs (may_open k) (a (may_open k))) → P v xs 0 → (b : Budget) → Reads P b (a b)
reads-comes {P = P} {v = v} {xs = xs} a c p b = record {
  reads = λ j k e o.
      let d = subst (λ b. Comes v xs (may_open k) (a b)) (sym e) (c k) in record {
        count = 0;
        holds = subst (λ w. P w (a b).errors 0) (sym d.same_value) (subst (λ ys. P v ys 0) (sym d.same_errors) p);
        sum = none_used j k (sym o ∙ d.same_budget);
      };
}

reads-then : {A B : Type 0} (P : A → List Unresolved → ℕ → Type 0) (Q : B → List Unresolved → ℕ → Type 0) {b : Budget} {x : Done A} (f : A → Budget → Done B) → ((v : A) (c : Budget) → Tells c (f v c))
    → Reads P b x → ((m : ℕ) → P x.value x.errors m → Reads (λ w ys n. Q w (x.errors ++ ys) (m + n)) x.budget (f x.value x.budget)) → Reads Q b (and_then x f)
reads-then P Q {b = b} {x = x} f t h g = record { reads = λ j k e o. at j k e o x.budget refl }
  where
    at : (j k : ℕ) → b ≡ may_open k → (f x.value x.budget).budget ≡ may_open j → (c : Budget) → x.budget ≡ c → Counted (Q (f x.value x.budget).value (x.errors ++ (f x.value x.budget).errors)) j k
    at j k e o (may_open i) p =
        let a = h.reads i k e p in
        let q = (g a.count a.holds).reads j i p o in
        record { count = a.count + q.count; holds = q.holds; sum = used_then a.count q.count i j k a.sum q.sum }
    at j k e o shut p = absurd (never_shut (times_too_many (f x.value x.budget).errors) (times_shut x.budget) (times_shut (f x.value x.budget).budget) (t x.value x.budget).same (ap times_shut p) (ap times_shut o))

-- where a placeable is opened, one more than its expression opens
data OpensTo {S F : Type 0} (env : Environment S F) (whole : Elements) (e : Expression) (place : Surroundings S) : Text → List Unresolved → ℕ → Type 0 where
  it_opens : {q : Text} {xs : List Unresolved} {m : ℕ} → Writes env e (rooted whole place) q xs m → OpensTo env whole e place (u.marked env whole e q) xs (suc m)

gives_both : {S F : Type 0} {env : Environment S F} {whole : Elements} {e : Expression} {es : Elements} {place : Surroundings S} {q r : Text} {xs ys : List Unresolved} {m n : ℕ} → OpensTo env whole e place q xs m → Gives env whole es place r ys n → Gives env whole (t.placeable e es) place (q ++ r) (xs ++ ys) (m + n)
gives_both (it_opens p) h = u.a_placeable p h

module _ {S F : Type 0} (env : Environment S F) where
  closed-reads : (e : Expression) {P : Text → List Unresolved → ℕ → Type 0} {b : Budget} {a : Done Text} → Reads P b a → Reads P b (s.closed env e a)
  closed-reads e {P} {b} {a} h = at (is_shut a.budget) refl
    where
      at : (c : Bool) → is_shut a.budget ≡ c → Reads P b (cond c (mapped (λ x. x ++ braced (fallback e)) a) a)
      at true p = record { reads = λ j k f o. absurd (never (sym p ∙ ap is_shut o)) }
        where
          never : true ≡ false → ⊥
          never h = cc
      at false p = h

  surrounded-reads : (c : Bool) {P Q : Text → List Unresolved → ℕ → Type 0} {b : Budget} {a : Done Text} → ((q : Text) (xs : List Unresolved) (n : ℕ) → P q xs n → Q (cond c (encode_utf8 0x2068 ++ (q ++ encode_utf8 0x2069)) q) xs n) → Reads P b a → Reads Q b (s.surrounded env c a)
  surrounded-reads true g h = reads-map (λ q. encode_utf8 0x2068 ++ (q ++ encode_utf8 0x2069)) g h
  surrounded-reads false g h = reads-as g h

  called-reads : (id : Text) (args : Arguments) (place : Surroundings S) (called : Called S) (xs : List Unresolved) (m : ℕ) → Calls env args place called xs m → (b : Budget) → Reads (λ w ys n. WritesInline env (t.function_reference id args) place w (xs ++ ys) (m + n)) b (s.call_written env (t.function_reference id args) id (env.find id) called b)
  called-reads id args place called xs m p b =
      reads-comes (s.call_written env (t.function_reference id args) id (env.find id) called) (call_written-comes env (t.function_reference id args) id (env.find id) called)
      (subst (λ n. WritesInline env (t.function_reference id args) place (s.call_written env (t.function_reference id args) id (env.find id) called shut).value (xs ++ (s.call_written env (t.function_reference id args) id (env.find id) called shut).errors) n) (no_more m) (u.of_call p)) b

  call_value-reads : (id : Text) (args : Arguments) (place : Surroundings S) (called : Called S) (xs : List Unresolved) (m : ℕ) → Calls env args place called xs m → (b : Budget) → Reads (λ w ys n. Finds env (t.function_reference id args) place w (xs ++ ys) (m + n)) b (s.call_found env (env.find id) called b)
  call_value-reads id args place called xs m p b =
      reads-comes (s.call_found env (env.find id) called) (call_found-comes env (env.find id) called)
      (subst (λ ys. Finds env (t.function_reference id args) place (s.call_found env (env.find id) called shut).value ys (m + 0)) (sym (append-nil xs))
      (subst (λ n. Finds env (t.function_reference id args) place (s.call_found env (env.find id) called shut).value xs n) (no_more m) (u.call_value p))) b

  -- patterns up to a budget
  module _ (n : ℕ) (enters : (es : Elements) (place : Surroundings S) (b : Budget) → left b ≤ n → Reads (Gives env es es place) b (s.pattern_written env es place b)) where
    refers-reads : (i : Inline) (o : Target) (place : Surroundings S) (b : Budget) → left b ≤ n → Reads (Refers env i o place) b (s.target_written env (s.pattern_written env) i o place b)
    refers-reads i (missing e) place b h = reads-none b u.to_nothing
    refers-reads i (there es) place b h = at (is_on_path es place.path) refl
      where
        at : (c : Bool) → is_on_path es place.path ≡ c → Reads (Refers env i (there es) place) b (cond c (s.fallen_back env i cyclic b) (entering (s.pattern_written env es (deeper es place) b)))
        at true e = reads-none b (u.to_itself e)
        at false e = reads-entering (reads-as (λ v ys n q. u.to_pattern e q) (enters es (deeper es place) b h))

    variant-reads : (i : Inline) (vs : Variants) (place : Surroundings S) (v : Value S) (xs : List Unresolved) (m : ℕ) → Finds env i place v xs m → (o : Option Elements) → chosen env.plurals v vs ≡ o → (b : Budget) → left b ≤ n → Reads (λ w ys n. Writes env (select i vs) place w (xs ++ ys) (m + n)) b (s.variant_written env (s.pattern_written env) o place b)
    variant-reads i vs place v xs m p None e b h = reads-none b (subst (λ n. Writes env (select i vs) place [] (xs ++ missing_default ∷ []) n) (no_more m) (u.no_variant p e))
    variant-reads i vs place v xs m p (Some es) e b h = reads-entering (reads-as (λ w ys n q. u.a_variant p e q) (enters es place b h))

    message-reads : (id : Text) (attr : Option Text) (place : Surroundings S) (b : Budget) → left b ≤ n → Reads (WritesInline env (t.message_reference id attr) place) b (s.target_written env (s.pattern_written env) (t.message_reference id attr) (s.message_target id attr (env.find id)) place b)
    message-reads id attr place b h = reads-as (λ w ys n q. u.of_message q) (refers-reads (t.message_reference id attr) (s.message_target id attr (env.find id)) place b h)

    term-reads : (id : Text) (attr : Option Text) (args : MaybeArguments) (place : Surroundings S) (b : Budget) → left b ≤ n → Reads (MayCall env args place) b (s.maybe_arguments_with env (s.pattern_written env) args place b)
        → Reads (WritesInline env (t.term_reference id attr args) place) b (and_then (s.maybe_arguments_with env (s.pattern_written env) args place b) (λ called c. s.target_written env (s.pattern_written env) (t.term_reference id attr args) (s.term_target id attr (env.find id)) (s.in_term called.named place) c))
    term-reads id attr args place b h first =
        let x = s.maybe_arguments_with env (s.pattern_written env) args place b in
        reads-then (MayCall env args place) (WritesInline env (t.term_reference id attr args) place) (λ called c. s.target_written env (s.pattern_written env) (t.term_reference id attr args) (s.term_target id attr (env.find id)) (s.in_term called.named place) c)
        (λ called c. term-tells env (s.pattern_written env) (pattern-tells env) (t.term_reference id attr args) id attr (s.in_term called.named place) c) first
        (λ m p. reads-as (λ w ys n q. u.of_term p q) (refers-reads (t.term_reference id attr args) (s.term_target id attr (env.find id)) (s.in_term x.value.named place) x.budget (le_trans (maybe_arguments-falls env (s.pattern_written env) (pattern-falls env) args place b).le h)))

    mutual
      unfolding s.expression_with s.inline_with s.value_with s.maybe_arguments_with s.arguments_with s.positional_with s.named_with

      expression-reads : (e : Expression) (place : Surroundings S) (b : Budget) → left b ≤ n → Reads (Writes env e place) b (s.expression_written env e place b)
      expression-reads (inline i) place b h = reads-as (λ w ys n q. u.of_inline q) (inline-reads i place b h)
      expression-reads (select i vs) place b h =
          let x = s.value_found env i place b in
          reads-then (Finds env i place) (Writes env (select i vs) place) (λ v c. s.variant_written env (s.pattern_written env) (chosen env.plurals v vs) place c)
          (λ v c. variant-tells env (s.pattern_written env) (pattern-tells env) (chosen env.plurals v vs) place c) (value-reads i place b h)
          (λ m p. variant-reads i vs place x.value x.errors m p (chosen env.plurals x.value vs) refl x.budget (le_trans (value-falls env (s.pattern_written env) (pattern-falls env) i place b).le h))

      inline-reads : (i : Inline) (place : Surroundings S) (b : Budget) → left b ≤ n → Reads (WritesInline env i place) b (s.inline_written env i place b)
      inline-reads (t.string_literal x) place b h = reads-none b u.of_string
      inline-reads (t.number_literal x) place b h = reads-none b u.of_number
      inline-reads (t.function_reference id args) place b h =
          let x = s.arguments_with env (s.pattern_written env) args place b in
          reads-then (Calls env args place) (WritesInline env (t.function_reference id args) place) (λ called c. s.call_written env (t.function_reference id args) id (env.find id) called c)
          (call_written-tells env (t.function_reference id args) id (env.find id)) (arguments-reads args place b h)
          (λ m p. called-reads id args place x.value x.errors m p x.budget)
      inline-reads (t.message_reference id attr) place b h = message-reads id attr place b h
      inline-reads (t.term_reference id attr args) place b h = term-reads id attr args place b h (maybe_arguments-reads args place b h)
      inline-reads (t.variable_reference id) place b h = reads-comes (s.variable_written env id (s.variable env id place) place) (variable_written-comes env id (s.variable env id place) place) u.of_variable b
      inline-reads (t.nested e) place b h = reads-as (λ w ys n q. u.of_nested q) (expression-reads e place b h)

      value-reads : (i : Inline) (place : Surroundings S) (b : Budget) → left b ≤ n → Reads (Finds env i place) b (s.value_found env i place b)
      value-reads (t.string_literal x) place b h = reads-none b u.string_value
      value-reads (t.number_literal x) place b h = reads-none b u.number_value
      value-reads (t.function_reference id args) place b h =
          let x = s.arguments_with env (s.pattern_written env) args place b in
          reads-then (Calls env args place) (Finds env (t.function_reference id args) place) (λ called c. s.call_found env (env.find id) called c)
          (call_found-tells env (env.find id)) (arguments-reads args place b h)
          (λ m p. call_value-reads id args place x.value x.errors m p x.budget)
      value-reads (t.message_reference id attr) place b h = reads-map v.text (λ w ys n q. u.message_value q) (message-reads id attr place b h)
      value-reads (t.term_reference id attr args) place b h = reads-map v.text (λ w ys n q. u.term_value q) (term-reads id attr args place b h (maybe_arguments-reads args place b h))
      value-reads (t.variable_reference id) place b h = reads-comes (s.variable_found env id (s.variable env id place) place) (variable_found-comes env id (s.variable env id place) place) u.variable_value b
      value-reads (t.nested e) place b h = reads-map v.text (λ w ys n q. u.nested_value q) (expression-reads e place b h)

      maybe_arguments-reads : (args : MaybeArguments) (place : Surroundings S) (b : Budget) → left b ≤ n → Reads (MayCall env args place) b (s.maybe_arguments_with env (s.pattern_written env) args place b)
      maybe_arguments-reads no_arguments place b h = reads-none b u.without
      maybe_arguments-reads (with_arguments args) place b h = reads-as (λ w ys n q. u.with_some q) (arguments-reads args place b h)

      arguments-reads : (args : Arguments) (place : Surroundings S) (b : Budget) → left b ≤ n → Reads (Calls env args place) b (s.arguments_with env (s.pattern_written env) args place b)
      arguments-reads (arguments ps ns) place b h =
          let x = s.positional_with env (s.pattern_written env) ps place b in
          reads-then (FindsAll env ps place) (Calls env (arguments ps ns) place) (λ vs c. mapped (s.both vs) (s.named_with env (s.pattern_written env) ns place c))
          (λ vs c. tells-mapped (s.both vs) (named-tells env (s.pattern_written env) (pattern-tells env) ns place c)) (positional-reads ps place b h)
          (λ m p. reads-map (s.both x.value) (λ pairs ys n q. u.arguments_found p q) (named-reads ns place x.budget (le_trans (positional-falls env (s.pattern_written env) (pattern-falls env) ps place b).le h)))

      positional-reads : (ps : Inlines) (place : Surroundings S) (b : Budget) → left b ≤ n → Reads (FindsAll env ps place) b (s.positional_with env (s.pattern_written env) ps place b)
      positional-reads no_inlines place b h = reads-none b u.no_more
      positional-reads (positional e ps) place b h =
          let x = s.value_found env e place b in
          reads-then (Finds env e place) (FindsAll env (positional e ps) place) (λ v c. mapped (λ vs. v ∷ vs) (s.positional_with env (s.pattern_written env) ps place c))
          (λ v c. tells-mapped (λ vs. v ∷ vs) (positional-tells env (s.pattern_written env) (pattern-tells env) ps place c)) (value-reads e place b h)
          (λ m p. reads-map (λ vs. x.value ∷ vs) (λ vs ys n q. u.one_more p q) (positional-reads ps place x.budget (le_trans (value-falls env (s.pattern_written env) (pattern-falls env) e place b).le h)))

      named-reads : (ns : Nameds) (place : Surroundings S) (b : Budget) → left b ≤ n → Reads (FindsNamed env ns place) b (s.named_with env (s.pattern_written env) ns place b)
      named-reads no_nameds place b h = reads-none b u.no_more_named
      named-reads (named y e ns) place b h =
          let x = s.value_found env e place b in
          reads-then (Finds env e place) (FindsNamed env (named y e ns) place) (λ v c. mapped (λ pairs. (y, v) ∷ pairs) (s.named_with env (s.pattern_written env) ns place c))
          (λ v c. tells-mapped (λ pairs. (y, v) ∷ pairs) (named-tells env (s.pattern_written env) (pattern-tells env) ns place c)) (value-reads e place b h)
          (λ m p. reads-map (λ pairs. (y, x.value) ∷ pairs) (λ pairs ys n q. u.one_more_named p q) (named-reads ns place x.budget (le_trans (value-falls env (s.pattern_written env) (pattern-falls env) e place b).le h)))

  -- expressions below a budget
  module _ (n : ℕ) (writes : (e : Expression) (place : Surroundings S) (b : Budget) → left b < n → Reads (Writes env e place) b (s.expression_written env e place b)) where
    placeable-reads : (whole : Elements) (e : Expression) (place : Surroundings S) (b : Budget) → left b ≤ n → Reads (OpensTo env whole e place) b (s.placeable_with env (s.expression_written env) whole e place b)
    placeable-reads whole e place shut h = record { reads = λ j k f o. absurd (not_open k f) }
    placeable-reads whole e place (may_open zero) h = record { reads = λ j k f o. absurd (not_open j o) }
    placeable-reads whole e place (may_open (suc i)) h = record {
      reads = λ j k f o.
          let p = (surrounded-reads (env.isolating && (s.several whole && not (s.stands_bare e))) {P = Writes env e (rooted whole place)} {Q = λ q xs m. OpensTo env whole e place q xs (suc m)} (λ q xs m w. it_opens w)
          (closed-reads e (writes e (rooted whole place) (may_open i) h))).reads j i refl o in
          record { count = suc p.count; holds = p.holds; sum = one_more p.count j i k p.sum (ap left f) };
    }
      where
        one_more : (m j i k : ℕ) → m + j ≡ i → suc i ≡ k → suc m + j ≡ k
        one_more m j i k h l = omega (arith, h, l)

    elements-reads : (whole es : Elements) (place : Surroundings S) (b : Budget) → left b ≤ n → Reads (Gives env whole es place) b (s.elements_written env whole es place b)
    unfolding s.elements_with
    elements-reads whole no_elements place b h = reads-none b u.nothing
    elements-reads whole (t.text x es) place shut h = record { reads = λ j k e o. absurd (not_open k e) }
    elements-reads whole (t.text x es) place (may_open i) h = record { reads = λ j k e o. let p = (elements-reads whole es place (may_open i) h).reads j k e o in record { count = p.count; holds = u.a_text p.holds; sum = p.sum } }
    elements-reads whole (t.placeable e es) place b h =
        let x = s.placeable_with env (s.expression_written env) whole e place b in
        reads-then (OpensTo env whole e place) (Gives env whole (t.placeable e es) place) (λ r c. mapped (λ q. r ++ q) (s.elements_written env whole es place c))
        (λ r c. tells-mapped (λ q. r ++ q) (elements-tells env (s.expression_written env) (expression-tells env (s.pattern_written env) (pattern-tells env)) whole es place c)) (placeable-reads whole e place b h)
        (λ m p. reads-map (λ q. x.value ++ q) (λ r ys n q. gives_both p q) (elements-reads whole es place x.budget (le_trans (placeable-falls env (s.expression_written env) (expression-falls env (s.pattern_written env) (pattern-falls env)) whole e place b).le h)))

  pattern-reads : (n : ℕ) (es : Elements) (place : Surroundings S) (b : Budget) → left b ≤ n → Reads (Gives env es es place) b (s.pattern_written env es place b)
  pattern-reads zero es place b h = reads-by (s.elements_written env es es place b) (s.pattern_written env es place b) (pattern-is env es place b) (elements-reads zero (λ e p c lt. absurd (nothing_below lt)) es es place b h)
    where
      nothing_below : {m : ℕ} → m < 0 → ⊥
      nothing_below h = omega (arith, h)
  pattern-reads (suc n) es place b h =
      reads-by (s.elements_written env es es place b) (s.pattern_written env es place b) (pattern-is env es place b)
      (elements-reads (suc n) (λ e p c lt. expression-reads n (pattern-reads n) e p c (below lt)) es es place b h)
    where
      below : {m : ℕ} → m < suc n → m ≤ n
      below h = omega (arith, h)

pub open-is-unlimited : {S F : Type 0} → OpenIsUnlimited S F
open-is-unlimited env es place j k o = (pattern-reads env k es place (may_open k) (le_refl k)).reads j k refl o

pub unlimited-is-one : {S F : Type 0} → UnlimitedIsOne S F
unlimited-is-one env es place r q xs ys m n g h =
    let a = s.elements_written env es es place in
    let p = gives-comes env g n in
    let o = subst (λ k. Comes q ys (may_open m) (s.elements_written env es es place (may_open k))) (swap n m) (gives-comes env h m) in
    (sym p.same_value ∙ o.same_value, (sym p.same_errors ∙ o.same_errors, sym (ap left (sym p.same_budget ∙ o.same_budget))))
  where
    swap : (a b : ℕ) → a + b ≡ b + a
    swap a b = omega arith
