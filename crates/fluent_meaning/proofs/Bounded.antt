-- How many patterns are entered: what is opened pays for the references in it.
use Rattle.std.proofs.Common.{◌≡◌, ℕ, zero, suc, ◌+◌, ◌*◌, ◌≤◌, max, Bool, true, false, cond, List, [], ◌∷◌, ◌++◌, Option, Some, None, ◌∙◌, arith}
use Rattle.std.specs.Prelude.{◌&&◌, not, is_some, encode_utf8}
use Rattle.std.specs.BTreeMap.{is_at}
use Rattle.std.specs.Str.{bytes_eq}
use Rattle.std.proofs.Math.Nat.{le_refl, le_trans, suc-mul}
use Rattle.fluent_value.specs.Args.{order}
use Rattle.fluent_grammar.specs.Words.{Text}
use Rattle.fluent_grammar.specs.Tree as t
use Rattle.fluent_grammar.specs.Tree.{Elements, no_elements, placeable, Expression, select, inline, Variants, Inline, Arguments, arguments, Inlines, no_inlines, positional, Nameds, no_nameds, named, MaybeArguments, no_arguments, with_arguments}
use Rattle.fluent_errors.specs.Errors.{Unresolved, no_value, unknown, to_message, to_term}
use Rattle.fluent_number.specs.declared.plural.PluralOperands.{PluralOperands}
use Rattle.fluent_number.specs.declared.plural.PluralRuleType.{PluralRuleType}
use Rattle.fluent_number.specs.declared.plural.PluralCategory.{PluralCategory}
use Rattle.fluent_value.specs.Value as v
use Rattle.fluent_value.specs.Value.{Value}
use Rattle.fluent_meaning.specs.Choice.{chosen, first_match, first_default, key_value, is_choice, or_else}
use Rattle.fluent_value.specs.Matching.{matches}
use Rattle.fluent_meaning.specs.Environment.{Environment}
use Rattle.fluent_meaning.specs.Fallback.{braced, fallback}
use Rattle.fluent_meaning.specs.Ids.{Ids, Meaning, number_function, function, message, term, find, attribute_named}
use Rattle.fluent_meaning.specs.ReachLaws.{over}
use Rattle.fluent_meaning.specs.Steps.{Budget, may_open, shut, left, is_shut, Done, done, and_then, mapped, entering}
use Rattle.fluent_meaning.specs.Substitution as s
use Rattle.fluent_meaning.specs.Substitution.{Surroundings, Called, Target, there, missing, there_or, is_on_path, deeper, Writer, outset}
use Rattle.fluent_meaning.specs.Work.{expression_references, inline_references, maybe_references, arguments_references, inlines_references, nameds_references, most_references, most_in_variants, most_of_variants, most_in_inline, most_in_maybe, most_in_arguments, most_in_inlines, most_in_nameds, value_most, attributes_most, meaning_most, ids_most}
use Rattle.fluent_meaning.specs.WorkLaws.{most_with_pattern, most_with_expression, most_with_arguments, EntersWithinBound}

-- the greater of two within a bound
max_first : (a b n : ℕ) → max a b ≤ n → a ≤ n
max_first a b n h = omega (arith, h)

max_second : (a b n : ℕ) → max a b ≤ n → b ≤ n
max_second a b n h = omega (arith, h)

first_max : (a b : ℕ) → a ≤ max a b
first_max a b = omega arith

second_max : (a b : ℕ) → b ≤ max a b
second_max a b = omega arith

-- what is chosen has no more than the variants, and so with attributes
by_either : (n : ℕ) (b : Bool) (o p : Option Elements) → value_most o ≤ n → value_most p ≤ n → value_most (cond b o p) ≤ n
by_either n true o p h k = h
by_either n false o p h k = k

pub or_else-most : (n : ℕ) (o p : Option Elements) → value_most o ≤ n → value_most p ≤ n → value_most (or_else o p) ≤ n
or_else-most n None p h k = k
or_else-most n (Some es) p h k = h

nothing_most : (n : ℕ) → 0 ≤ n
nothing_most n = omega arith

pub first_match-most : {S : Type 0} (n : ℕ) (plurals : PluralRuleType → PluralOperands → PluralCategory) (v : Value S) (vs : Variants) → most_of_variants vs ≤ n → value_most (first_match plurals v vs) ≤ n
first_match-most n plurals v t.no_variants h = nothing_most n
first_match-most n plurals v (t.variant k es d vs) h =
    by_either n (matches plurals (key_value k) v) (Some es) (first_match plurals v vs) (max_first (most_references es) (most_of_variants vs) n h) (first_match-most n plurals v vs (max_second (most_references es) (most_of_variants vs) n h))

pub first_default-most : (n : ℕ) (vs : Variants) → most_of_variants vs ≤ n → value_most (first_default vs) ≤ n
first_default-most n t.no_variants h = nothing_most n
first_default-most n (t.variant k es d vs) h =
    by_either n d (Some es) (first_default vs) (max_first (most_references es) (most_of_variants vs) n h) (first_default-most n vs (max_second (most_references es) (most_of_variants vs) n h))

pub chosen-most : {S : Type 0} (n : ℕ) (plurals : PluralRuleType → PluralOperands → PluralCategory) (v : Value S) (vs : Variants) → most_of_variants vs ≤ n → value_most (chosen plurals v vs) ≤ n
chosen-most n plurals v vs h =
    or_else-most n (cond (is_choice v) (first_match plurals v vs) None) (first_default vs)
    (by_either n (is_choice v) (first_match plurals v vs) None (first_match-most n plurals v vs h) (nothing_most n)) (first_default-most n vs h)

pub attribute-most : (n : ℕ) (name : Text) (as' : List t.Attribute) → attributes_most as' ≤ n → value_most (attribute_named name as') ≤ n
attribute-most n name [] h = nothing_most n
attribute-most n name (a ∷ as') h =
    by_either n (bytes_eq a.id name) (Some a.value) (attribute_named name as') (max_first (most_references a.value) (attributes_most as') n h) (attribute-most n name as' (max_second (most_references a.value) (attributes_most as') n h))

abbrev pub target_most : Target → ℕ
target_most (there es) = most_references es
target_most (missing e) = 0

abbrev pub found_most : {F : Type 0} → Option (Meaning F) → ℕ
found_most None = 0
found_most (Some m) = meaning_most m

pub there_or-most : (n : ℕ) (e : Unresolved) (o : Option Elements) → value_most o ≤ n → target_most (there_or e o) ≤ n
there_or-most n e None h = nothing_most n
there_or-most n e (Some es) h = h

pub message-most : {F : Type 0} (n : ℕ) (id : Text) (attr : Option Text) (o : Option (Meaning F)) → found_most o ≤ n → target_most (s.message_target id attr o) ≤ n
message-most n id attr None h = nothing_most n
message-most n id attr (Some number_function) h = nothing_most n
message-most n id attr (Some (function f)) h = nothing_most n
message-most n id attr (Some (term m)) h = nothing_most n
message-most n id None (Some (message m)) h = there_or-most n (no_value id) m.value (max_first (value_most m.value) (attributes_most m.attributes) n h)
message-most n id (Some a) (Some (message m)) h = there_or-most n (unknown (to_message id (Some a))) (attribute_named a m.attributes) (attribute-most n a m.attributes (max_second (value_most m.value) (attributes_most m.attributes) n h))

pub term-most : {F : Type 0} (n : ℕ) (id : Text) (attr : Option Text) (o : Option (Meaning F)) → found_most o ≤ n → target_most (s.term_target id attr o) ≤ n
term-most n id attr None h = nothing_most n
term-most n id attr (Some number_function) h = nothing_most n
term-most n id attr (Some (function f)) h = nothing_most n
term-most n id attr (Some (message m)) h = nothing_most n
term-most n id None (Some (term m)) h = max_first (most_references m.value) (attributes_most m.attributes) n h
term-most n id (Some a) (Some (term m)) h = there_or-most n (unknown (to_term id (Some a))) (attribute_named a m.attributes) (attribute-most n a m.attributes (max_second (most_references m.value) (attributes_most m.attributes) n h))

found-by : {F : Type 0} (b : Bool) (pair : Text × Meaning F) (pairs : Ids F) (id : Text) → found_most (find pairs id) ≤ ids_most pairs → found_most (cond b (Some pair.1) (find pairs id)) ≤ ids_most (pair ∷ pairs)
found-by true pair pairs id h = first_max (meaning_most pair.1) (ids_most pairs)
found-by false pair pairs id h = le_trans h (second_max (meaning_most pair.1) (ids_most pairs))

pub found-most : {F : Type 0} (ids : Ids F) (id : Text) → found_most (find ids id) ≤ ids_most ids
found-most [] id = nothing_most 0
found-most (pair ∷ pairs) id = found-by (is_at (order id) pair.0) pair pairs id (found-most pairs id)

sum_within : (e l o r f m p : ℕ) → e + l ≤ o + r → f + m ≤ p + l → (e + f) + m ≤ (o + p) + r
sum_within e l o r f m p h k = omega (arith, h, k)

more_within : (e l o p r : ℕ) → o ≤ p → e + l ≤ o + r → e + l ≤ p + r
more_within e l o p r h k = omega (arith, h, k)

one_within : (e l o r : ℕ) → e + l ≤ o + r → suc e + l ≤ suc o + r
one_within e l o r h = omega (arith, h)

paid_within : (e l o n r s : ℕ) → o ≤ n → s ≡ n + r → e + l ≤ o + r → e + l ≤ 0 + s
paid_within e l o n r s h p k = omega (arith, h, p, k)

-- With n for each placeable: what a step enters, and what it left to open, is no more than its own and what it had to open.
module _ (n : ℕ) where
  pub record Within {A : Type 0} (own : ℕ) (b : Budget) (a : Done A) : Type 0 where
    pub le : a.entered + left a.budget * n ≤ own + left b * n

  within-done : {A : Type 0} {v : A} {e : List Unresolved} {o : ℕ} (b : Budget) → Within 0 b (record { value = v; errors = e; budget = b; opened = o; entered = 0 })
  within-done b = record { le = le_refl (0 + left b * n) }

  within-more : {A : Type 0} {o : ℕ} (p : ℕ) {b : Budget} {a : Done A} → o ≤ p → Within o b a → Within p b a
  within-more {o = o} p {b = b} {a = a} h k = record { le = more_within a.entered (left a.budget * n) o p (left b * n) h k.le }

  within-entering : {A : Type 0} {o : ℕ} {b : Budget} {a : Done A} → Within o b a → Within (suc o) b (entering a)
  within-entering {o = o} {b = b} {a = a} h = record { le = one_within a.entered (left a.budget * n) o (left b * n) h.le }

  within-then : {A B : Type 0} {o p : ℕ} {b : Budget} {x : Done A} (f : A → Budget → Done B) → Within o b x → ((v : A) (c : Budget) → Within p c (f v c)) → Within (o + p) b (and_then x f)
  within-then {o = o} {p = p} {b = b} {x = x} f h k =
      let y = f x.value x.budget in
      record { le = sum_within x.entered (left x.budget * n) o (left b * n) y.entered (left y.budget * n) p h.le (k x.value x.budget).le }

  within-mapped : {A B : Type 0} {o : ℕ} {b : Budget} {x : Done A} (f : A → B) → Within o b x → Within o b (mapped f x)
  within-mapped f h = record { le = h.le }

  within-if : {A : Type 0} {o : ℕ} {b : Budget} (c : Bool) {x y : Done A} → Within o b x → Within o b y → Within o b (cond c x y)
  within-if true p q = p
  within-if false p q = q

-- nothing of its own
plus_none : (o : ℕ) → o + 0 ≤ o
plus_none o = omega arith

plus_one : (o : ℕ) → o + 1 ≤ suc o
plus_one o = omega arith

at_most_one : 0 ≤ 1
at_most_one = omega arith

swap : (a b : ℕ) → a + b ≡ b + a
swap a b = omega arith

one_more_times : (k n : ℕ) → suc k * n ≡ n + k * n
one_more_times k n = suc-mul k n ∙ swap (k * n) n

module _ {S F : Type 0} (env : Environment S F) (n : ℕ) where
  pub variable_written-within : (id : Text) (o : Option (Value S)) (place : Surroundings S) (b : Budget) → Within n 0 b (s.variable_written env id o place b)
  variable_written-within id (Some v) place b = within-done n b
  variable_written-within id None place b = within-if n (is_some place.locals) (within-done n b) (within-done n b)

  pub variable_found-within : (id : Text) (o : Option (Value S)) (place : Surroundings S) (b : Budget) → Within n 0 b (s.variable_found env id o place b)
  variable_found-within id (Some v) place b = within-done n b
  variable_found-within id None place b = within-if n (is_some place.locals) (within-done n b) (within-done n b)

  pub result-within : (id : Text) (r : Value S) (b : Budget) → Within n 0 b (s.result_written env id r b)
  result-within id (v.text x) b = within-done n b
  result-within id (v.number x) b = within-done n b
  result-within id (v.custom x) b = within-done n b
  result-within id v.none b = within-done n b
  result-within id v.error b = within-done n b

  pub call_written-within : (i : Inline) (id : Text) (o : Option (Meaning F)) (args : Called S) (b : Budget) → Within n 0 b (s.call_written env i id o args b)
  call_written-within i id None args b = within-done n b
  call_written-within i id (Some number_function) args b = result-within id _ b
  call_written-within i id (Some (function f)) args b = result-within id _ b
  call_written-within i id (Some (message m)) args b = within-done n b
  call_written-within i id (Some (term m)) args b = within-done n b

  pub call_found-within : (o : Option (Meaning F)) (args : Called S) (b : Budget) → Within n 0 b (s.call_found env o args b)
  call_found-within None args b = within-done n b
  call_found-within (Some number_function) args b = within-done n b
  call_found-within (Some (function f)) args b = within-done n b
  call_found-within (Some (message m)) args b = within-done n b
  call_found-within (Some (term m)) args b = within-done n b

  pub closed-within : (e : Expression) {o : ℕ} {b : Budget} {a : Done Text} → Within n o b a → Within n o b (s.closed env e a)
  closed-within e {a = a} p = within-if n (is_shut a.budget) (within-mapped n (λ x. x ++ braced (fallback e)) p) p

  pub surrounded-within : (c : Bool) {o : ℕ} {b : Budget} {a : Done Text} → Within n o b a → Within n o b (s.surrounded env c a)
  surrounded-within c p = within-if n c (within-mapped n (λ x. encode_utf8 0x2068 ++ (x ++ encode_utf8 0x2069)) p) p

  pub text-within : (x : Text) (b : Budget) → Within n 0 b (s.text_written env x b)
  text-within x (may_open k) = within-done n (may_open k)
  text-within x shut = within-done n shut

-- where no pattern of what ids stand for has more in one placeable
module _ {S F : Type 0} (env : Environment S F) (n : ℕ) (finds : (id : Text) → found_most (env.find id) ≤ n) where
  module _ (enter : Writer env Elements) (enters : (es : Elements) (place : Surroundings S) (b : Budget) → most_references es ≤ n → Within n 0 b (enter es place b)) where
    pub referred-within : (i : Inline) (es : Elements) (place : Surroundings S) (b : Budget) → most_references es ≤ n → Within n 1 b (s.referred env enter i es place b)
    referred-within i es place b h = within-if n (is_on_path es place.path) (within-more n 1 at_most_one (within-done n b)) (within-entering n (enters es (deeper es place) b h))

    pub target-within : (i : Inline) (o : Target) (place : Surroundings S) (b : Budget) → target_most o ≤ n → Within n 1 b (s.target_written env enter i o place b)
    target-within i (there es) place b h = referred-within i es place b h
    target-within i (missing e) place b h = within-more n 1 at_most_one (within-done n b)

    pub variant-within : (o : Option Elements) (place : Surroundings S) (b : Budget) → value_most o ≤ n → Within n 1 b (s.variant_written env enter o place b)
    variant-within None place b h = within-more n 1 at_most_one (within-done n b)
    variant-within (Some es) place b h = within-entering n (enters es place b h)

    pub message-within : (i : Inline) (id : Text) (attr : Option Text) (place : Surroundings S) (b : Budget) → Within n 1 b (s.target_written env enter i (s.message_target id attr (env.find id)) place b)
    message-within i id attr place b = target-within i (s.message_target id attr (env.find id)) place b (message-most n id attr (env.find id) (finds id))

    pub term-within : (i : Inline) (id : Text) (attr : Option Text) (place : Surroundings S) (b : Budget) → Within n 1 b (s.target_written env enter i (s.term_target id attr (env.find id)) place b)
    term-within i id attr place b = target-within i (s.term_target id attr (env.find id)) place b (term-most n id attr (env.find id) (finds id))

    mutual
      unfolding s.expression_with s.inline_with s.value_with s.maybe_arguments_with s.arguments_with s.positional_with s.named_with

      pub expression-within : (e : Expression) (place : Surroundings S) (b : Budget) → most_in_variants e ≤ n → Within n (expression_references e) b (s.expression_with env enter e place b)
      expression-within (inline i) place b h = inline-within i place b h
      expression-within (select i vs) place b h =
          within-more n (suc (inline_references i)) (plus_one (inline_references i))
          (within-then n (λ v c. s.variant_written env enter (chosen env.plurals v vs) place c) (value-within i place b (max_first (most_in_inline i) (most_of_variants vs) n h))
          (λ v c. variant-within (chosen env.plurals v vs) place c (chosen-most n env.plurals v vs (max_second (most_in_inline i) (most_of_variants vs) n h))))

      pub inline-within : (i : Inline) (place : Surroundings S) (b : Budget) → most_in_inline i ≤ n → Within n (inline_references i) b (s.inline_with env enter i place b)
      inline-within (t.string_literal x) place b h = within-done n b
      inline-within (t.number_literal x) place b h = within-done n b
      inline-within (t.function_reference id args) place b h =
          within-more n (arguments_references args) (plus_none (arguments_references args))
          (within-then n (λ called c. s.call_written env (t.function_reference id args) id (env.find id) called c) (arguments-within args place b h) (call_written-within env n (t.function_reference id args) id (env.find id)))
      inline-within (t.message_reference id attr) place b h = message-within (t.message_reference id attr) id attr place b
      inline-within (t.term_reference id attr args) place b h =
          within-more n (suc (maybe_references args)) (plus_one (maybe_references args))
          (within-then n (λ called c. s.target_written env enter (t.term_reference id attr args) (s.term_target id attr (env.find id)) (s.in_term called.named place) c) (maybe_arguments-within args place b h)
          (λ called c. term-within (t.term_reference id attr args) id attr (s.in_term called.named place) c))
      inline-within (t.variable_reference id) place b h = variable_written-within env n id (s.variable env id place) place b
      inline-within (t.nested e) place b h = expression-within e place b h

      pub value-within : (i : Inline) (place : Surroundings S) (b : Budget) → most_in_inline i ≤ n → Within n (inline_references i) b (s.value_with env enter i place b)
      value-within (t.string_literal x) place b h = within-done n b
      value-within (t.number_literal x) place b h = within-done n b
      value-within (t.function_reference id args) place b h =
          within-more n (arguments_references args) (plus_none (arguments_references args))
          (within-then n (λ called c. s.call_found env (env.find id) called c) (arguments-within args place b h) (call_found-within env n (env.find id)))
      value-within (t.message_reference id attr) place b h = within-mapped n v.text (message-within (t.message_reference id attr) id attr place b)
      value-within (t.term_reference id attr args) place b h =
          within-mapped n v.text (within-more n (suc (maybe_references args)) (plus_one (maybe_references args))
          (within-then n (λ called c. s.target_written env enter (t.term_reference id attr args) (s.term_target id attr (env.find id)) (s.in_term called.named place) c) (maybe_arguments-within args place b h)
          (λ called c. term-within (t.term_reference id attr args) id attr (s.in_term called.named place) c)))
      value-within (t.variable_reference id) place b h = variable_found-within env n id (s.variable env id place) place b
      value-within (t.nested e) place b h = within-mapped n v.text (expression-within e place b h)

      pub maybe_arguments-within : (args : MaybeArguments) (place : Surroundings S) (b : Budget) → most_in_maybe args ≤ n → Within n (maybe_references args) b (s.maybe_arguments_with env enter args place b)
      maybe_arguments-within no_arguments place b h = within-done n b
      maybe_arguments-within (with_arguments args) place b h = arguments-within args place b h

      pub arguments-within : (args : Arguments) (place : Surroundings S) (b : Budget) → most_in_arguments args ≤ n → Within n (arguments_references args) b (s.arguments_with env enter args place b)
      arguments-within (arguments ps ns) place b h =
          within-then n (λ vs c. mapped (s.both vs) (s.named_with env enter ns place c)) (positional-within ps place b (max_first (most_in_inlines ps) (most_in_nameds ns) n h))
          (λ vs c. within-mapped n (s.both vs) (named-within ns place c (max_second (most_in_inlines ps) (most_in_nameds ns) n h)))

      pub positional-within : (ps : Inlines) (place : Surroundings S) (b : Budget) → most_in_inlines ps ≤ n → Within n (inlines_references ps) b (s.positional_with env enter ps place b)
      positional-within no_inlines place b h = within-done n b
      positional-within (positional e ps) place b h =
          within-then n (λ v c. mapped (λ vs. v ∷ vs) (s.positional_with env enter ps place c)) (value-within e place b (max_first (most_in_inline e) (most_in_inlines ps) n h))
          (λ v c. within-mapped n (λ vs. v ∷ vs) (positional-within ps place c (max_second (most_in_inline e) (most_in_inlines ps) n h)))

      pub named-within : (ns : Nameds) (place : Surroundings S) (b : Budget) → most_in_nameds ns ≤ n → Within n (nameds_references ns) b (s.named_with env enter ns place b)
      named-within no_nameds place b h = within-done n b
      named-within (named x e ns) place b h =
          within-then n (λ v c. mapped (λ pairs. (x, v) ∷ pairs) (s.named_with env enter ns place c)) (value-within e place b (max_first (most_in_inline e) (most_in_nameds ns) n h))
          (λ v c. within-mapped n (λ pairs. (x, v) ∷ pairs) (named-within ns place c (max_second (most_in_inline e) (most_in_nameds ns) n h)))

  module _ (write : Writer env Expression) (writes : (e : Expression) (place : Surroundings S) (b : Budget) → most_in_variants e ≤ n → Within n (expression_references e) b (write e place b)) where
    pub placeable-within : (whole : Elements) (e : Expression) (place : Surroundings S) (b : Budget) → expression_references e ≤ n → most_in_variants e ≤ n → Within n 0 b (s.placeable_with env write whole e place b)
    placeable-within whole e place shut h k = within-done n shut
    placeable-within whole e place (may_open zero) h k = record { le = le_refl (0 + 0 * n) }
    placeable-within whole e place (may_open (suc j)) h k =
        let a = s.surrounded env (env.isolating && (s.several whole && not (s.stands_bare e))) (s.closed env e (write e (s.rooted whole place) (may_open j))) in
        let p = surrounded-within env n (env.isolating && (s.several whole && not (s.stands_bare e))) (closed-within env n e (writes e (s.rooted whole place) (may_open j) k)) in
        record { le = paid_within a.entered (left a.budget * n) (expression_references e) n (j * n) (suc j * n) h (one_more_times j n) p.le }

    pub elements-within : (whole es : Elements) (place : Surroundings S) (b : Budget) → most_references es ≤ n → Within n 0 b (s.elements_with env write whole es place b)
    unfolding s.elements_with
    elements-within whole no_elements place b h = within-done n b
    elements-within whole (t.text x es) place b h = within-then n (λ r c. mapped (λ q. r ++ q) (s.elements_with env write whole es place c)) (text-within env n x b) (λ r c. within-mapped n (λ q. r ++ q) (elements-within whole es place c h))
    elements-within whole (t.placeable e es) place b h =
        let k = max_second (expression_references e) (max (most_in_variants e) (most_references es)) n h in
        within-then n (λ r c. mapped (λ q. r ++ q) (s.elements_with env write whole es place c))
        (placeable-within whole e place b (max_first (expression_references e) (max (most_in_variants e) (most_references es)) n h) (max_first (most_in_variants e) (most_references es) n k))
        (λ r c. within-mapped n (λ q. r ++ q) (elements-within whole es place c (max_second (most_in_variants e) (most_references es) n k)))

  pub pattern_at-within : (d : ℕ) (es : Elements) (place : Surroundings S) (b : Budget) → most_references es ≤ n → Within n 0 b (s.pattern_at env d es place b)
  unfolding s.pattern_at
  pattern_at-within zero es place b h = elements-within (λ e p c. done [] c) (λ e p c _. within-more n (expression_references e) (nothing_most (expression_references e)) (within-done n c)) es es place b h
  pattern_at-within (suc d) es place b h = elements-within (s.expression_with env (s.pattern_at env d)) (expression-within (s.pattern_at env d) (pattern_at-within d)) es es place b h

  pub pattern-within : (es : Elements) (place : Surroundings S) (b : Budget) → most_references es ≤ n → Within n 0 b (s.pattern_written env es place b)
  unfolding s.pattern_written
  pattern-within es place b h = pattern_at-within (left b) es place b h

one_and_bound : (e l r : ℕ) → e + l ≤ 0 + r → suc e ≤ 1 + r
one_and_bound e l r h = omega (arith, h)

bound_of_one : (e l r : ℕ) → e + l ≤ 1 + r → e ≤ 1 + r
bound_of_one e l r h = omega (arith, h)

bound_of_own : (e l o n r s : ℕ) → o ≤ n → s ≡ n + r → e + l ≤ o + r → e ≤ s
bound_of_own e l o n r s h p k = omega (arith, h, p, k)

pub enters-within-bound : {S F : Type 0} → EntersWithinBound S F
enters-within-bound env ids = record {
  requests = λ k args es.
      let n = most_with_pattern ids es in
      let a = s.pattern_written (over (find ids) env) es (outset args) (may_open k) in
      one_and_bound a.entered (left a.budget * n) (k * n) (pattern-within (over (find ids) env) n (finds n (second_max (most_references es) (ids_most ids))) es (outset args) (may_open k) (first_max (most_references es) (ids_most ids))).le;
  references = λ i es place b.
      let n = most_with_pattern ids es in
      let h = finds n (second_max (most_references es) (ids_most ids)) in
      let a = s.referred (over (find ids) env) (s.pattern_written (over (find ids) env)) i es place b in
      bound_of_one a.entered (left a.budget * n) (left b * n) (referred-within (over (find ids) env) n h (s.pattern_written (over (find ids) env)) (pattern-within (over (find ids) env) n h) i es place b (first_max (most_references es) (ids_most ids))).le;
  expressions = λ e place b.
      let n = most_with_expression ids e in
      let h = finds n (second_max (most_references (placeable e no_elements)) (ids_most ids)) in
      let all = first_max (most_references (placeable e no_elements)) (ids_most ids) in
      let a = s.expression_written (over (find ids) env) e place b in
      bound_of_own a.entered (left a.budget * n) (expression_references e) n (left b * n) (suc (left b) * n) (max_first (expression_references e) (max (most_in_variants e) 0) n all) (one_more_times (left b) n)
      (expression-within (over (find ids) env) n h (s.pattern_written (over (find ids) env)) (pattern-within (over (find ids) env) n h) e place b
      (max_first (most_in_variants e) 0 n (max_second (expression_references e) (max (most_in_variants e) 0) n all))).le;
  unmarked = λ whole e place b.
      let n = most_with_expression ids e in
      let h = finds n (second_max (most_references (placeable e no_elements)) (ids_most ids)) in
      let all = first_max (most_references (placeable e no_elements)) (ids_most ids) in
      let a = s.unmarked_written (over (find ids) env) whole e place b in
      bound_of_own a.entered (left a.budget * n) (expression_references e) n (left b * n) (suc (left b) * n) (max_first (expression_references e) (max (most_in_variants e) 0) n all) (one_more_times (left b) n)
      (closed-within (over (find ids) env) n e (expression-within (over (find ids) env) n h (s.pattern_written (over (find ids) env)) (pattern-within (over (find ids) env) n h) e (s.rooted whole place) b
      (max_first (most_in_variants e) 0 n (max_second (expression_references e) (max (most_in_variants e) 0) n all)))).le;
  arguments = λ args place b.
      let n = most_with_arguments ids args in
      let h = finds n (second_max (max (maybe_references args) (most_in_maybe args)) (ids_most ids)) in
      let all = first_max (max (maybe_references args) (most_in_maybe args)) (ids_most ids) in
      let a = s.maybe_arguments_with (over (find ids) env) (s.pattern_written (over (find ids) env)) args place b in
      bound_of_own a.entered (left a.budget * n) (maybe_references args) n (left b * n) (suc (left b) * n) (max_first (maybe_references args) (most_in_maybe args) n all) (one_more_times (left b) n)
      (maybe_arguments-within (over (find ids) env) n h (s.pattern_written (over (find ids) env)) (pattern-within (over (find ids) env) n h) args place b
      (max_second (maybe_references args) (most_in_maybe args) n all)).le;
}
  where
    finds : (n : ℕ) → ids_most ids ≤ n → (id : Text) → found_most (find ids id) ≤ n
    finds n h id = le_trans (found-most ids id) h
