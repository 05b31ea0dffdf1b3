-- What has a result without a limit has the same with enough placeables to open.
use Rattle.std.proofs.Common.{◌≡◌, ℕ, suc, ◌+◌, ◌-◌, ◌≤◌, Bool, true, false, cond, List, [], ◌∷◌, ◌++◌, Option, Some, None, refl, ap, sym, subst, ◌∙◌, arith, append-nil}
use Rattle.std.specs.Prelude.{is_some, encode_utf8}
use Rattle.fluent_grammar.specs.Words.{Text, dollar}
use Rattle.fluent_grammar.specs.Tree as t
use Rattle.fluent_grammar.specs.Tree.{Elements, no_elements, Expression, select, inline, Variants, Inline, Arguments, arguments, Inlines, no_inlines, positional, Nameds, no_nameds, named, MaybeArguments, no_arguments, with_arguments}
use Rattle.fluent_errors.specs.Errors.{Unresolved, unknown, to_variable, cyclic}
use Rattle.fluent_value.specs.Value as v
use Rattle.fluent_value.specs.Value.{Value}
use Rattle.fluent_meaning.specs.Choice.{chosen}
use Rattle.fluent_meaning.specs.Environment.{Environment}
use Rattle.fluent_meaning.specs.Fallback.{braced, fallback}
use Rattle.fluent_meaning.specs.Ids.{Meaning, number_function, function, message, term}
use Rattle.fluent_meaning.specs.Steps.{Budget, may_open, shut, is_shut, Done, done, faulty, and_then, mapped, opening, entering}
use Rattle.fluent_meaning.specs.Substitution as s
use Rattle.fluent_meaning.specs.Substitution.{Surroundings, Called, Target, there, missing, is_on_path, deeper, Writer, outset}
use Rattle.fluent_meaning.specs.Unlimited as u
use Rattle.fluent_meaning.specs.Unlimited.{Gives, Writes, WritesInline, Refers, Finds, MayCall, Calls, FindsAll, FindsNamed}
use Rattle.fluent_meaning.specs.UnlimitedLaws.{Comes, LimitStays}
use Rattle.fluent_meaning.proofs.Fixpoint.{pattern-is}

pub comes-then : {A B : Type 0} {v : A} {w : B} {xs ys : List Unresolved} {c d : Budget} {a : Done A} (f : A → Budget → Done B) → Comes v xs c a → Comes w ys d (f v c) → Comes w (xs ++ ys) d (and_then a f)
comes-then {v = v} {xs = xs} {a = a} f p q =
    let same = ap (λ x. f x a.budget) p.same_value ∙ ap (f v) p.same_budget in record {
      same_value = ap (λ d. d.value) same ∙ q.same_value;
      same_errors = ap (λ es. es ++ (f a.value a.budget).errors) p.same_errors ∙ ap (λ d. xs ++ d.errors) same ∙ ap (λ es. xs ++ es) q.same_errors;
      same_budget = ap (λ d. d.budget) same ∙ q.same_budget;
    }

pub comes-mapped : {A B : Type 0} {v : A} {xs : List Unresolved} {c : Budget} {a : Done A} (f : A → B) → Comes v xs c a → Comes (f v) xs c (mapped f a)
comes-mapped f p = record { same_value = ap f p.same_value; same_errors = p.same_errors; same_budget = p.same_budget }

pub comes-entering : {A : Type 0} {v : A} {xs : List Unresolved} {c : Budget} {a : Done A} → Comes v xs c a → Comes v xs c (entering a)
comes-entering p = record { same_value = p.same_value; same_errors = p.same_errors; same_budget = p.same_budget }

pub comes-opening : {A : Type 0} {v : A} {xs : List Unresolved} {c : Budget} {a : Done A} → Comes v xs c a → Comes v xs c (opening a)
comes-opening p = record { same_value = p.same_value; same_errors = p.same_errors; same_budget = p.same_budget }

pub comes-done : {A : Type 0} {v : A} {xs : List Unresolved} {b : Budget} {o n : ℕ} → Comes v xs b (record { value = v; errors = xs; budget = b; opened = o; entered = n })
comes-done = record { same_value = refl; same_errors = refl; same_budget = refl }

-- the same with as many placeables, said otherwise
pub comes-at : {A : Type 0} {v : A} {xs : List Unresolved} {c : Budget} (m n : ℕ) (f : Budget → Done A) → m ≡ n → Comes v xs c (f (may_open m)) → Comes v xs c (f (may_open n))
comes-at {v = v} {xs = xs} {c = c} m n f e p = subst (λ n. Comes v xs c (f (may_open n))) e p

pub comes-errors : {A : Type 0} {v : A} {xs ys : List Unresolved} {c : Budget} {a : Done A} → xs ≡ ys → Comes v xs c a → Comes v ys c a
comes-errors e p = record { same_value = p.same_value; same_errors = p.same_errors ∙ e; same_budget = p.same_budget }

pub comes-by : {A : Type 0} {v : A} {xs : List Unresolved} {c : Budget} (a a' : Done A) → a' ≡ a → Comes v xs c a → Comes v xs c a'
comes-by {v = v} {xs = xs} {c = c} a a' e p = subst (λ a. Comes v xs c a) (sym e) p

pub either-comes : {A : Type 0} (c : Bool) (v : A) (e : Unresolved) (k : ℕ) → Comes (cond c (done v shut) (faulty v e shut)).value (cond c (done v shut) (faulty v e shut)).errors (may_open k) (cond c (done v (may_open k)) (faulty v e (may_open k)))
either-comes true v e k = comes-done
either-comes false v e k = comes-done

none_used : (k : ℕ) → k ≡ 0 + k
none_used k = omega arith

used_then : (m n k : ℕ) → m + (n + k) ≡ (m + n) + k
used_then m n k = omega arith

one_used_then : (m n k : ℕ) → suc (m + (n + k)) ≡ (suc m + n) + k
one_used_then m n k = omega arith

rest_left : (n k : ℕ) → n ≤ k → n + (k - n) ≡ k
rest_left n k h = omega (arith, h)

module _ {S F : Type 0} (env : Environment S F) where
  pub variable_written-comes : (id : Text) (o : Option (Value S)) (place : Surroundings S) (k : ℕ) → Comes (s.variable_written env id o place shut).value (s.variable_written env id o place shut).errors (may_open k) (s.variable_written env id o place (may_open k))
  variable_written-comes id (Some v) place k = comes-done
  variable_written-comes id None place k = either-comes (is_some place.locals) (braced (dollar ∷ id)) (unknown (to_variable id)) k

  pub variable_found-comes : (id : Text) (o : Option (Value S)) (place : Surroundings S) (k : ℕ) → Comes (s.variable_found env id o place shut).value (s.variable_found env id o place shut).errors (may_open k) (s.variable_found env id o place (may_open k))
  variable_found-comes id (Some v) place k = comes-done
  variable_found-comes id None place k = either-comes (is_some place.locals) v.error (unknown (to_variable id)) k

  pub result-comes : (id : Text) (r : Value S) (k : ℕ) → Comes (s.result_written env id r shut).value (s.result_written env id r shut).errors (may_open k) (s.result_written env id r (may_open k))
  result-comes id (v.text x) k = comes-done
  result-comes id (v.number x) k = comes-done
  result-comes id (v.custom x) k = comes-done
  result-comes id v.none k = comes-done
  result-comes id v.error k = comes-done

  pub call_written-comes : (i : Inline) (id : Text) (o : Option (Meaning F)) (args : Called S) (k : ℕ) → Comes (s.call_written env i id o args shut).value (s.call_written env i id o args shut).errors (may_open k) (s.call_written env i id o args (may_open k))
  call_written-comes i id None args k = comes-done
  call_written-comes i id (Some number_function) args k = result-comes id _ k
  call_written-comes i id (Some (function f)) args k = result-comes id _ k
  call_written-comes i id (Some (message m)) args k = comes-done
  call_written-comes i id (Some (term m)) args k = comes-done

  pub call_found-comes : (o : Option (Meaning F)) (args : Called S) (k : ℕ) → Comes (s.call_found env o args shut).value [] (may_open k) (s.call_found env o args (may_open k))
  call_found-comes None args k = comes-done
  call_found-comes (Some number_function) args k = comes-done
  call_found-comes (Some (function f)) args k = comes-done
  call_found-comes (Some (message m)) args k = comes-done
  call_found-comes (Some (term m)) args k = comes-done

  pub closed-comes : (e : Expression) {r : Text} {xs : List Unresolved} {k : ℕ} {a : Done Text} → Comes r xs (may_open k) a → Comes r xs (may_open k) (s.closed env e a)
  closed-comes e {r} {xs} {k} {a} p = at (is_shut a.budget) (ap is_shut p.same_budget)
    where
      at : (c : Bool) → c ≡ false → Comes r xs (may_open k) (cond c (mapped (λ x. x ++ braced (fallback e)) a) a)
      at true h = cc
      at false h = p

  pub surrounded-comes : (c : Bool) {r : Text} {xs : List Unresolved} {b : Budget} {a : Done Text} → Comes r xs b a → Comes (cond c (encode_utf8 0x2068 ++ (r ++ encode_utf8 0x2069)) r) xs b (s.surrounded env c a)
  surrounded-comes true p = comes-mapped (λ x. encode_utf8 0x2068 ++ (x ++ encode_utf8 0x2069)) p
  surrounded-comes false p = p

  -- a pattern, by its elements
  pub entered-comes : {r : Text} {xs : List Unresolved} {c : Budget} (es : Elements) (place : Surroundings S) (b : Budget) → Comes r xs c (s.elements_written env es es place b) → Comes r xs c (s.pattern_written env es place b)
  entered-comes es place b p = comes-by (s.elements_written env es es place b) (s.pattern_written env es place b) (pattern-is env es place b) p

  mutual
    unfolding s.expression_with s.inline_with s.value_with s.maybe_arguments_with s.arguments_with s.positional_with s.named_with s.elements_with

    pub gives-comes : {whole es : Elements} {place : Surroundings S} {r : Text} {xs : List Unresolved} {n : ℕ} → Gives env whole es place r xs n → (k : ℕ) → Comes r xs (may_open k) (s.elements_written env whole es place (may_open (n + k)))
    gives-comes (u.nothing {whole = whole} {place = place}) k = comes-at k (0 + k) (s.elements_written env whole no_elements place) (none_used k) comes-done
    gives-comes (u.a_text {whole = whole} {x = x} {es = es} {place = place} p) k = comes-then {xs = []} (λ q c. mapped (λ r. q ++ r) (s.elements_written env whole es place c)) comes-done (comes-mapped (λ r. env.transformed x ++ r) (gives-comes p k))
    gives-comes (u.a_placeable {whole = whole} {e = e} {es = es} {place = place} {q = q} {m = m} {n = n} p h) k =
        comes-at (suc (m + (n + k))) ((suc m + n) + k) (s.elements_written env whole (t.placeable e es) place) (one_used_then m n k)
        (comes-then (λ q c. mapped (λ r. q ++ r) (s.elements_written env whole es place c))
        (comes-opening (surrounded-comes (s.is_isolated env whole e) (closed-comes e (writes-comes p (n + k)))))
        (comes-mapped (λ r. u.marked env whole e q ++ r) (gives-comes h k)))

    pub writes-comes : {e : Expression} {place : Surroundings S} {r : Text} {xs : List Unresolved} {n : ℕ} → Writes env e place r xs n → (k : ℕ) → Comes r xs (may_open k) (s.expression_written env e place (may_open (n + k)))
    writes-comes (u.of_inline p) k = inline-comes p k
    writes-comes (u.no_variant {i = i} {vs = vs} {place = place} {v = v} {n = n} p e) k =
        comes-then (λ v c. s.variant_written env (s.pattern_written env) (chosen env.plurals v vs) place c) (finds-comes p k)
        (comes-by (s.variant_written env (s.pattern_written env) None place (may_open k)) (s.variant_written env (s.pattern_written env) (chosen env.plurals v vs) place (may_open k)) (ap (λ o. s.variant_written env (s.pattern_written env) o place (may_open k)) e) comes-done)
    writes-comes (u.a_variant {i = i} {vs = vs} {place = place} {v = v} {es = es} {m = m} {n = n} p e h) k =
        comes-at (m + (n + k)) ((m + n) + k) (s.expression_written env (select i vs) place) (used_then m n k)
        (comes-then (λ v c. s.variant_written env (s.pattern_written env) (chosen env.plurals v vs) place c) (finds-comes p (n + k))
        (comes-by (s.variant_written env (s.pattern_written env) (Some es) place (may_open (n + k))) (s.variant_written env (s.pattern_written env) (chosen env.plurals v vs) place (may_open (n + k))) (ap (λ o. s.variant_written env (s.pattern_written env) o place (may_open (n + k))) e)
        (comes-entering (entered-comes es place (may_open (n + k)) (gives-comes h k)))))

    pub inline-comes : {i : Inline} {place : Surroundings S} {r : Text} {xs : List Unresolved} {n : ℕ} → WritesInline env i place r xs n → (k : ℕ) → Comes r xs (may_open k) (s.inline_written env i place (may_open (n + k)))
    inline-comes (u.of_string {x = x} {place = place}) k = comes-at k (0 + k) (s.inline_written env (t.string_literal x) place) (none_used k) comes-done
    inline-comes (u.of_number {x = x} {place = place}) k = comes-at k (0 + k) (s.inline_written env (t.number_literal x) place) (none_used k) comes-done
    inline-comes (u.of_variable {id = id} {place = place}) k = comes-at k (0 + k) (s.inline_written env (t.variable_reference id) place) (none_used k) (variable_written-comes id (s.variable env id place) place k)
    inline-comes (u.of_call {id = id} {args = args} {called = called} p) k = comes-then (λ called c. s.call_written env (t.function_reference id args) id (env.find id) called c) (calls-comes p k) (call_written-comes (t.function_reference id args) id (env.find id) called k)
    inline-comes (u.of_message p) k = refers-comes p k
    inline-comes (u.of_term {id = id} {attr = attr} {args = args} {place = place} {called = called} {m = m} {n = n} p h) k =
        comes-at (m + (n + k)) ((m + n) + k) (s.inline_written env (t.term_reference id attr args) place) (used_then m n k)
        (comes-then (λ called c. s.target_written env (s.pattern_written env) (t.term_reference id attr args) (s.term_target id attr (env.find id)) (s.in_term called.named place) c) (may_call-comes p (n + k)) (refers-comes h k))
    inline-comes (u.of_nested p) k = writes-comes p k

    pub refers-comes : {i : Inline} {o : Target} {place : Surroundings S} {r : Text} {xs : List Unresolved} {n : ℕ} → Refers env i o place r xs n → (k : ℕ) → Comes r xs (may_open k) (s.target_written env (s.pattern_written env) i o place (may_open (n + k)))
    refers-comes (u.to_nothing {i = i} {e = e} {place = place}) k = comes-at k (0 + k) (s.target_written env (s.pattern_written env) i (missing e) place) (none_used k) comes-done
    refers-comes (u.to_itself {i = i} {es = es} {place = place} h) k =
        comes-at k (0 + k) (s.target_written env (s.pattern_written env) i (there es) place) (none_used k)
        (comes-by _ _ (ap (λ c. cond c (s.fallen_back env i cyclic (may_open k)) (entering (s.pattern_written env es (deeper es place) (may_open k)))) h) comes-done)
    refers-comes (u.to_pattern {i = i} {es = es} {place = place} {n = n} h p) k =
        comes-by _ _ (ap (λ c. cond c (s.fallen_back env i cyclic (may_open (n + k))) (entering (s.pattern_written env es (deeper es place) (may_open (n + k))))) h)
        (comes-entering (entered-comes es (deeper es place) (may_open (n + k)) (gives-comes p k)))

    pub finds-comes : {i : Inline} {place : Surroundings S} {v : Value S} {xs : List Unresolved} {n : ℕ} → Finds env i place v xs n → (k : ℕ) → Comes v xs (may_open k) (s.value_found env i place (may_open (n + k)))
    finds-comes (u.string_value {x = x} {place = place}) k = comes-at k (0 + k) (s.value_found env (t.string_literal x) place) (none_used k) comes-done
    finds-comes (u.number_value {x = x} {place = place}) k = comes-at k (0 + k) (s.value_found env (t.number_literal x) place) (none_used k) comes-done
    finds-comes (u.variable_value {id = id} {place = place}) k = comes-at k (0 + k) (s.value_found env (t.variable_reference id) place) (none_used k) (variable_found-comes id (s.variable env id place) place k)
    finds-comes (u.call_value {id = id} {args = args} {called = called} {xs = xs} p) k = comes-errors (append-nil xs) (comes-then (λ called c. s.call_found env (env.find id) called c) (calls-comes p k) (call_found-comes (env.find id) called k))
    finds-comes (u.message_value p) k = comes-mapped v.text (inline-comes p k)
    finds-comes (u.term_value p) k = comes-mapped v.text (inline-comes p k)
    finds-comes (u.nested_value p) k = comes-mapped v.text (writes-comes p k)

    pub may_call-comes : {args : MaybeArguments} {place : Surroundings S} {called : Called S} {xs : List Unresolved} {n : ℕ} → MayCall env args place called xs n → (k : ℕ) → Comes called xs (may_open k) (s.maybe_arguments_with env (s.pattern_written env) args place (may_open (n + k)))
    may_call-comes (u.without {place = place}) k = comes-at k (0 + k) (s.maybe_arguments_with env (s.pattern_written env) no_arguments place) (none_used k) comes-done
    may_call-comes (u.with_some p) k = calls-comes p k

    pub calls-comes : {args : Arguments} {place : Surroundings S} {called : Called S} {xs : List Unresolved} {n : ℕ} → Calls env args place called xs n → (k : ℕ) → Comes called xs (may_open k) (s.arguments_with env (s.pattern_written env) args place (may_open (n + k)))
    calls-comes (u.arguments_found {ps = ps} {ns = ns} {place = place} {vs = vs} {m = m} {n = n} p h) k =
        comes-at (m + (n + k)) ((m + n) + k) (s.arguments_with env (s.pattern_written env) (arguments ps ns) place) (used_then m n k)
        (comes-then (λ vs c. mapped (s.both vs) (s.named_with env (s.pattern_written env) ns place c)) (all-comes p (n + k)) (comes-mapped (s.both vs) (named-comes h k)))

    pub all-comes : {ps : Inlines} {place : Surroundings S} {vs : List (Value S)} {xs : List Unresolved} {n : ℕ} → FindsAll env ps place vs xs n → (k : ℕ) → Comes vs xs (may_open k) (s.positional_with env (s.pattern_written env) ps place (may_open (n + k)))
    all-comes (u.no_more {place = place}) k = comes-at k (0 + k) (s.positional_with env (s.pattern_written env) no_inlines place) (none_used k) comes-done
    all-comes (u.one_more {e = e} {ps = ps} {place = place} {v = v} {m = m} {n = n} p h) k =
        comes-at (m + (n + k)) ((m + n) + k) (s.positional_with env (s.pattern_written env) (positional e ps) place) (used_then m n k)
        (comes-then (λ v c. mapped (λ vs. v ∷ vs) (s.positional_with env (s.pattern_written env) ps place c)) (finds-comes p (n + k)) (comes-mapped (λ vs. v ∷ vs) (all-comes h k)))

    pub named-comes : {ns : Nameds} {place : Surroundings S} {pairs : List (Text × Value S)} {xs : List Unresolved} {n : ℕ} → FindsNamed env ns place pairs xs n → (k : ℕ) → Comes pairs xs (may_open k) (s.named_with env (s.pattern_written env) ns place (may_open (n + k)))
    named-comes (u.no_more_named {place = place}) k = comes-at k (0 + k) (s.named_with env (s.pattern_written env) no_nameds place) (none_used k) comes-done
    named-comes (u.one_more_named {x = x} {e = e} {ns = ns} {place = place} {v = v} {m = m} {n = n} p h) k =
        comes-at (m + (n + k)) ((m + n) + k) (s.named_with env (s.pattern_written env) (named x e ns) place) (used_then m n k)
        (comes-then (λ v c. mapped (λ pairs. (x, v) ∷ pairs) (s.named_with env (s.pattern_written env) ns place c)) (finds-comes p (n + k)) (comes-mapped (λ pairs. (x, v) ∷ pairs) (named-comes h k)))

pub limit-stays : {S F : Type 0} → LimitStays S F
limit-stays env = record {
  patterns = λ es place r xs n k p h. comes-at (n + (k - n)) k (s.pattern_written env es place) (rest_left n k h) (entered-comes env es place (may_open (n + (k - n))) (gives-comes env p (k - n)));
  expressions = λ e place r xs n k p h. comes-at (n + (k - n)) k (s.expression_written env e place) (rest_left n k h) (writes-comes env p (k - n));
  inlines = λ i place r xs n k p h. comes-at (n + (k - n)) k (s.inline_written env i place) (rest_left n k h) (inline-comes env p (k - n));
  values = λ i place v xs n k p h. comes-at (n + (k - n)) k (s.value_found env i place) (rest_left n k h) (finds-comes env p (k - n));
  calls = λ args place called xs n k p h. comes-at (n + (k - n)) k (s.arguments_with env (s.pattern_written env) args place) (rest_left n k h) (calls-comes env p (k - n));
  requests = λ args es r xs n k p h. comes-entering (comes-at (n + (k - n)) k (s.pattern_written env es (outset args)) (rest_left n k h) (entered-comes env es (outset args) (may_open (n + (k - n))) (gives-comes env p (k - n))));
}
