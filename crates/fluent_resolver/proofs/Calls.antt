-- Arguments, one after the other.
use Rattle.std.proofs.Common.{◌≡◌, ℕ, zero, suc, ◌+◌, ◌<◌, Option, Some, None, List, [], ◌∷◌, ◌++◌, map, take, length, get_or, refl, ap, sym, ◌∙◌, arith, append_assoc}
use mathlib.Core.Logic.{◌⊎◌, inl, inr}
use Rattle.std.proofs.Math.Seq.{take-suc}
use Rattle.std.proofs.lemmas.List.{map-append}
use Rattle.fluent_ast.specs.View.{Named, inlines_of, nameds_of}
use Rattle.fluent_grammar.specs.Tree as t
use Rattle.fluent_grammar.specs.Words.{Text}
use Rattle.fluent_meaning.proofs.Equations.{arguments-some}
use Rattle.fluent_meaning.proofs.Refusals.{tells-first, tells-like, tells-then}
use Rattle.fluent_meaning.proofs.States.{finds-as, finds-mapped, finds-then}
use Rattle.fluent_meaning.specs.Environment.{Environment}
use Rattle.fluent_meaning.specs.Refused.{TellsSome}
use Rattle.fluent_meaning.specs.Steps.{Budget, may_open, Done, done, and_then, mapped}
use Rattle.fluent_meaning.specs.Substitution as s
use Rattle.fluent_meaning.specs.Substitution.{Called, Surroundings, both}
use Rattle.fluent_meaning.specs.Ids.{Meaning, number_function, function, message, term}
use Rattle.fluent_errors.specs.Errors.{unknown, to_function}
use Rattle.fluent_progress.specs.Results.{function_result}
use Rattle.fluent_value.specs.Builtins.{number_called}
use Rattle.fluent_value.specs.Value as v
use Rattle.fluent_meaning.specs.Told.{State, Finds}
use Rattle.fluent_value.specs.Args.{all_set, with_argument}
use Rattle.fluent_value.specs.Value.{Value}
use Rattle.fluent_resolver.proofs.Parts.{tells-as}

plus_assoc : (a b c : ℕ) → (a + b) + c ≡ a + (b + c)
plus_assoc a b c = omega arith

zero_plus : (n : ℕ) → 0 + n ≡ n
zero_plus n = omega arith

-- steps that find lists, one after the other
then-none : {A : Type 0} (b : Budget) (f : Budget → Done (List A)) → and_then (done [] b) (λ vs c. mapped (λ ws. vs ++ ws) (f c)) ≡ f b
then-none b f = λ i. record { value = (f b).value; errors = (f b).errors; budget = (f b).budget; opened = zero_plus (f b).opened i; entered = zero_plus (f b).entered i }

then-more : {A B : Type 0} (pair : A → B) (a : Done A) (f g : Budget → Done (List B)) → and_then (and_then a (λ v c. mapped (λ ws. pair v ∷ ws) (f c))) (λ vs d. mapped (λ ws. vs ++ ws) (g d)) ≡ and_then a (λ v c. mapped (λ ws. pair v ∷ ws) (and_then (f c) (λ vs d. mapped (λ ws. vs ++ ws) (g d))))
then-more pair a f g = λ i. record {
  value = (pair a.value ∷ (f a.budget).value) ++ (g (f a.budget).budget).value;
  errors = append_assoc a.errors (f a.budget).errors (g (f a.budget).budget).errors i;
  budget = (g (f a.budget).budget).budget;
  opened = plus_assoc a.opened (f a.budget).opened (g (f a.budget).budget).opened i;
  entered = plus_assoc a.entered (f a.budget).entered (g (f a.budget).budget).entered i;
}

module _ {S F : Type 0} (env : Environment S F) (place : Surroundings S) where
  pub positional-append : (xs ys : List t.Inline) (b : Budget) → s.positional_found env (inlines_of (xs ++ ys)) place b ≡ and_then (s.positional_found env (inlines_of xs) place b) (λ vs c. mapped (λ ws. vs ++ ws) (s.positional_found env (inlines_of ys) place c))
  unfolding s.positional_with
  positional-append [] ys b = sym (then-none b (s.positional_found env (inlines_of ys) place))
  positional-append (x ∷ xs) ys b =
      ap (λ d. and_then (s.value_found env x place b) (λ v c. mapped (λ ws. v ∷ ws) d)) (positional-append xs ys (s.value_found env x place b).budget)
      ∙ sym (then-more (λ v. v) (s.value_found env x place b) (s.positional_found env (inlines_of xs) place) (s.positional_found env (inlines_of ys) place))

  pub named-append : (xs ys : List Named) (b : Budget) → s.named_found env (nameds_of (xs ++ ys)) place b ≡ and_then (s.named_found env (nameds_of xs) place b) (λ vs c. mapped (λ ws. vs ++ ws) (s.named_found env (nameds_of ys) place c))
  unfolding s.named_with
  named-append [] ys b = sym (then-none b (s.named_found env (nameds_of ys) place))
  named-append (x ∷ xs) ys b =
      ap (λ d. and_then (s.value_found env x.value place b) (λ v c. mapped (λ ws. (x.name, v) ∷ ws) d)) (named-append xs ys (s.value_found env x.value place b).budget)
      ∙ sym (then-more (λ v. (x.name, v)) (s.value_found env x.value place b) (s.named_found env (nameds_of xs) place) (s.named_found env (nameds_of ys) place))

  one-positional : (x : t.Inline) (b : Budget) → s.positional_found env (inlines_of (x ∷ [])) place b ≡ mapped (λ v. v ∷ []) (s.value_found env x place b)
  unfolding s.positional_with
  one-positional x b = last (λ v. v) (s.value_found env x place b)
    where
      plus_zero : (n : ℕ) → n + 0 ≡ n
      plus_zero n = omega arith

      append_none : {A : Type 0} (xs : List A) → xs ++ [] ≡ xs
      append_none [] = refl
      append_none (x ∷ xs) = ap (λ ys. x ∷ ys) (append_none xs)

      last : {A B : Type 0} (pair : A → B) (a : Done A) → and_then a (λ v c. mapped (λ ws. pair v ∷ ws) (done [] c)) ≡ mapped (λ v. pair v ∷ []) a
      last pair a = λ i. record { value = pair a.value ∷ []; errors = append_none a.errors i; budget = a.budget; opened = plus_zero a.opened i; entered = plus_zero a.entered i }

  one-named : (x : Named) (b : Budget) → s.named_found env (nameds_of (x ∷ [])) place b ≡ mapped (λ v. (x.name, v) ∷ []) (s.value_found env x.value place b)
  unfolding s.named_with
  one-named x b = last (λ v. (x.name, v)) (s.value_found env x.value place b)
    where
      plus_zero : (n : ℕ) → n + 0 ≡ n
      plus_zero n = omega arith

      append_none : {A : Type 0} (xs : List A) → xs ++ [] ≡ xs
      append_none [] = refl
      append_none (x ∷ xs) = ap (λ ys. x ∷ ys) (append_none xs)

      last : {A B : Type 0} (pair : A → B) (a : Done A) → and_then a (λ v c. mapped (λ ws. pair v ∷ ws) (done [] c)) ≡ mapped (λ v. pair v ∷ []) a
      last pair a = λ i. record { value = pair a.value ∷ []; errors = append_none a.errors i; budget = a.budget; opened = plus_zero a.opened i; entered = plus_zero a.entered i }

  -- one value more
  pub positional-one : (xs : List t.Inline) (x : t.Inline) {vs : List (Value S)} {v : Value S} {r u w : State} → Finds vs r u (λ b. s.positional_found env (inlines_of xs) place b) → Finds v u w (s.value_found env x place) → Finds (vs ++ v ∷ []) r w (λ b. s.positional_found env (inlines_of (xs ++ x ∷ [])) place b)
  positional-one xs x {vs = vs} {r = r} {u = u} p q =
      finds-as _ _ (sym (positional-append xs (x ∷ []) r.budget))
      (finds-then (λ b. s.positional_found env (inlines_of xs) place b) p (λ ys c. mapped (λ ws. ys ++ ws) (s.positional_found env (inlines_of (x ∷ [])) place c))
      (finds-as (λ c. mapped (λ y. vs ++ y ∷ []) (s.value_found env x place c)) (λ c. mapped (λ ws. vs ++ ws) (s.positional_found env (inlines_of (x ∷ [])) place c)) (ap (mapped (λ ws. vs ++ ws)) (sym (one-positional x u.budget))) (finds-mapped (s.value_found env x place) q (λ y. vs ++ y ∷ []))))

  -- values after others were refused
  pub positional-refused : (xs ys : List t.Inline) (x : t.Inline) {vs : List (Value S)} {r u w : State} → Finds vs r u (λ b. s.positional_found env (inlines_of xs) place b) → TellsSome u w (s.value_found env x place u.budget) → TellsSome r w (s.positional_found env (inlines_of (xs ++ x ∷ ys)) place r.budget)
  unfolding s.positional_with
  positional-refused xs ys x {r = r} p h =
      let a = s.positional_found env (inlines_of xs) place r.budget in
      tells-as (sym (positional-append xs (x ∷ ys) r.budget))
      (tells-then a (λ vs c. mapped (λ ws. vs ++ ws) (s.positional_found env (inlines_of (x ∷ ys)) place c)) p.state
      (tells-like (mapped (λ ws. a.value ++ ws) (s.positional_found env (inlines_of (x ∷ ys)) place a.budget)) refl
      (tells-first (λ v c. mapped (λ ws. v ∷ ws) (s.positional_found env (inlines_of ys) place c)) (tells-as (ap (λ (z : State). s.value_found env x place z.budget) p.state) h))))

  set-append : (args : List (Text × Value S)) (ps : List (Text × Value S)) (p : Text × Value S) → all_set args (ps ++ p ∷ []) ≡ with_argument p.0 p.1 (all_set args ps)
  set-append args [] p = refl
  set-append args (q ∷ ps) p = set-append (with_argument q.0 q.1 args) ps p

  pub named-one : (xs : List Named) (x : Named) {args : List (Text × Value S)} {v : Value S} {r u w : State} → Finds args r u (λ b. mapped (all_set []) (s.named_found env (nameds_of xs) place b)) → Finds v u w (s.value_found env x.value place) → Finds (with_argument x.name v args) r w (λ b. mapped (all_set []) (s.named_found env (nameds_of (xs ++ x ∷ [])) place b))
  named-one xs x {args = args} {v = v} {r = r} {u = u} {w = w} p q =
      let a = s.named_found env (nameds_of xs) place r.budget in
      let first : Finds a.value r u (λ b. s.named_found env (nameds_of xs) place b) = record { value = refl; state = p.state } in
      let all : Finds (a.value ++ (x.name, v) ∷ []) r w (λ b. s.named_found env (nameds_of (xs ++ x ∷ [])) place b) =
      finds-as _ _ (sym (named-append xs (x ∷ []) r.budget))
      (finds-then (λ b. s.named_found env (nameds_of xs) place b) first (λ ys c. mapped (λ ws. ys ++ ws) (s.named_found env (nameds_of (x ∷ [])) place c))
      (finds-as (λ c. mapped (λ y. a.value ++ (x.name, y) ∷ []) (s.value_found env x.value place c)) (λ c. mapped (λ ws. a.value ++ ws) (s.named_found env (nameds_of (x ∷ [])) place c)) (ap (mapped (λ ws. a.value ++ ws)) (sym (one-named x u.budget))) (finds-mapped (s.value_found env x.value place) q (λ y. a.value ++ (x.name, y) ∷ [])))) in
      record { value = ap (with_argument x.name v) p.value ∙ sym (set-append [] a.value (x.name, v)) ∙ ap (all_set []) all.value; state = all.state }

  pub named-refused : (xs ys : List Named) (x : Named) {args : List (Text × Value S)} {r u w : State} → Finds args r u (λ b. mapped (all_set []) (s.named_found env (nameds_of xs) place b)) → TellsSome u w (s.value_found env x.value place u.budget) → TellsSome r w (mapped (all_set []) (s.named_found env (nameds_of (xs ++ x ∷ ys)) place r.budget))
  unfolding s.named_with
  named-refused xs ys x {r = r} p h =
      let a = s.named_found env (nameds_of xs) place r.budget in
      let all : TellsSome r _ (s.named_found env (nameds_of (xs ++ x ∷ ys)) place r.budget) =
      tells-as (sym (named-append xs (x ∷ ys) r.budget))
      (tells-then a (λ vs c. mapped (λ ws. vs ++ ws) (s.named_found env (nameds_of (x ∷ ys)) place c)) p.state
      (tells-like (mapped (λ ws. a.value ++ ws) (s.named_found env (nameds_of (x ∷ ys)) place a.budget)) refl
      (tells-first (λ v c. mapped (λ ws. (x.name, v) ∷ ws) (s.named_found env (nameds_of ys) place c)) (tells-as (ap (λ (z : State). s.value_found env x.value place z.budget) p.state) h)))) in
      tells-like (mapped (all_set []) (s.named_found env (nameds_of (xs ++ x ∷ ys)) place r.budget)) refl all

-- the items up to an index, and the one there
pub map-up-to : {A B : Type 0} (view : A → B) (xs : List A) (i : ℕ) (x : A) → i < length xs → x ≡ get_or xs i x → map view (take i xs) ++ view x ∷ [] ≡ map view (take (i + 1) xs)
map-up-to view xs i x h e =
    let next : suc i ≡ i + 1 = omega arith in
    ap (λ y. map view (take i xs) ++ view y ∷ []) e ∙ sym (map-append view (take i xs) (get_or xs i x ∷ [])) ∙ ap (map view) (sym (take-suc xs i x h) ∙ ap (λ n. take n xs) next)

-- positional values, and then named ones
module _ {S F : Type 0} (env : Environment S F) (place : Surroundings S) (ps : t.Inlines) (ns : t.Nameds) where
  pub args-found : {vs : List (Value S)} {named : List (Text × Value S)} {r u w : State} → Finds vs r u (s.positional_found env ps place) → Finds named u w (λ b. mapped (all_set []) (s.named_found env ns place b)) → Finds (record { positional = vs; named = named }) r w (s.arguments_found env (t.with_arguments (t.arguments ps ns)) place)
  args-found {vs = vs} {named = named} {r = r} {u = u} {w = w} p q =
      let next : Finds (record { positional = vs; named = named }) u w (λ c. mapped (both vs) (s.named_found env ns place c)) = record { value = ap (λ n. record { positional = vs; named = n }) q.value; state = q.state } in
      finds-as _ _ (sym (arguments-some env place r.budget ps ns)) (finds-then (s.positional_found env ps place) p (λ ys c. mapped (both ys) (s.named_found env ns place c)) next)

  pub args-first : {r u : State} → TellsSome r u (s.positional_found env ps place r.budget) → TellsSome r u (s.arguments_found env (t.with_arguments (t.arguments ps ns)) place r.budget)
  args-first {r = r} h = tells-as (sym (arguments-some env place r.budget ps ns)) (tells-first (λ ys c. mapped (both ys) (s.named_found env ns place c)) h)

  pub args-second : {vs : List (Value S)} {r u w : State} → Finds vs r u (s.positional_found env ps place) → TellsSome u w (mapped (all_set []) (s.named_found env ns place u.budget)) → TellsSome r w (s.arguments_found env (t.with_arguments (t.arguments ps ns)) place r.budget)
  args-second {r = r} {u = u} p h =
      let a = s.positional_found env ps place r.budget in
      tells-as (sym (arguments-some env place r.budget ps ns))
      (tells-then a (λ ys c. mapped (both ys) (s.named_found env ns place c)) p.state
      (tells-as (ap (λ (z : State). mapped (both a.value) (s.named_found env ns place z.budget)) p.state)
      (tells-like (mapped (both a.value) (s.named_found env ns place u.budget)) refl h)))

-- what stands at an index, seen otherwise
pub get_or-view : {A B : Type 0} (view : A → B) (xs : List A) (i : ℕ) (x : A) → i < length xs → x ≡ get_or xs i x → view x ≡ get_or (map view xs) i (view x)
get_or-view view [] i x h e = absurd (omega arith)
get_or-view view (y ∷ ys) zero x h e = ap view e
get_or-view view (y ∷ ys) (suc i) x h e = get_or-view view ys i x (omega arith) e

-- calls, by what their functions give
module _ {S F : Type 0} (env : Environment S F) (b : Budget) where
  pub call-known : (i : t.Inline) (id : Text) (m : Option (Meaning F)) (args : Called S) (r : Value S) → function_result env m args.positional args.named ≡ Some r → s.call_written env i id m args b ≡ s.result_written env id r b
  call-known i id None args r h = cc
  call-known i id (Some number_function) args r h = let e : number_called args.positional args.named ≡ r = cc in ap (λ x. s.result_written env id x b) e
  call-known i id (Some (function f)) args r h = let e : env.call f args.positional args.named ≡ r = cc in ap (λ x. s.result_written env id x b) e
  call-known i id (Some (message m)) args r h = cc
  call-known i id (Some (term m)) args r h = cc

  pub call-unknown : (i : t.Inline) (id : Text) (m : Option (Meaning F)) (args : Called S) → function_result env m args.positional args.named ≡ None → s.call_written env i id m args b ≡ s.fallen_back env i (unknown (to_function id)) b
  call-unknown i id None args h = refl
  call-unknown i id (Some number_function) args h = cc
  call-unknown i id (Some (function f)) args h = cc
  call-unknown i id (Some (message m)) args h = refl
  call-unknown i id (Some (term m)) args h = refl

  pub found-known : (m : Option (Meaning F)) (args : Called S) (r : Value S) → function_result env m args.positional args.named ≡ Some r → s.call_found env m args b ≡ done r b
  found-known None args r h = cc
  found-known (Some number_function) args r h = let e : number_called args.positional args.named ≡ r = cc in ap (λ x. done x b) e
  found-known (Some (function f)) args r h = let e : env.call f args.positional args.named ≡ r = cc in ap (λ x. done x b) e
  found-known (Some (message m)) args r h = cc
  found-known (Some (term m)) args r h = cc

  pub found-unknown : (m : Option (Meaning F)) (args : Called S) → function_result env m args.positional args.named ≡ None → s.call_found env m args b ≡ done v.error b
  found-unknown None args h = refl
  found-unknown (Some number_function) args h = cc
  found-unknown (Some (function f)) args h = cc
  found-unknown (Some (message m)) args h = refl
  found-unknown (Some (term m)) args h = refl

  -- the result of a function takes nothing more
  pub result-done : (id : Text) (r : Value S) → s.result_written env id r b ≡ done (s.result_written env id r (may_open 0)).value b
  result-done id (v.text x) = refl
  result-done id (v.number x) = refl
  result-done id (v.custom x) = refl
  result-done id v.none = refl
  result-done id v.error = refl

-- one of three
pub of-three : {P Q R T : Type 0} → (P → T) → (Q → T) → (R → T) → (P ⊎ (Q ⊎ R)) → T
of-three f g h (inl p) = f p
of-three f g h (inr (inl q)) = g q
of-three f g h (inr (inr r)) = h r
