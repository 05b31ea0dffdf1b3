-- Calls of functions, by what their functions give.
use Rattle.std.proofs.Common.{◌≡◌, ◌++◌, ◌∙◌, Option, Some, None, ap, refl, sym}
use Rattle.fluent_errors.specs.Errors.{unknown, to_function}
use Rattle.fluent_grammar.specs.Tree as t
use Rattle.fluent_grammar.specs.Words.{Text}
use Rattle.fluent_meaning.proofs.Equations.{inline-function, value-function}
use Rattle.fluent_meaning.proofs.Refusals.{tells-first, tells-found, tells-like}
use Rattle.fluent_meaning.proofs.States.{IsWithin, finds-as, finds-done, finds-then, finds-then-writes, writes-done}
use Rattle.fluent_meaning.proofs.Writing.{writes-as}
use Rattle.fluent_meaning.specs.Environment.{Environment}
use Rattle.fluent_meaning.specs.Fallback.{braced, inline_fallback}
use Rattle.fluent_meaning.specs.Refused.{TellsSome}
use Rattle.fluent_meaning.specs.Steps.{Budget, Done, and_then, faulty, mapped, may_open}
use Rattle.fluent_meaning.specs.Substitution as s
use Rattle.fluent_meaning.specs.Substitution.{Called, Surroundings}
use Rattle.fluent_meaning.specs.Told.{Finds, State, Writes}
use Rattle.fluent_progress.specs.Results.{function_result}
use Rattle.fluent_value.specs.Value as v
use Rattle.fluent_value.specs.Value.{Value}
use Rattle.fluent_resolver.proofs.Calls.{call-known, call-unknown, found-known, found-unknown, result-done}
use Rattle.fluent_resolver.proofs.Parts.{found-tells, tells-as}

module _ {S F : Type 0} (env : Environment S F) (place : Surroundings S) {i : t.Inline} {id : Text} {given : t.Arguments} (is : i ≡ t.function_reference id given) where
  abbrev arguments : Budget → Done (Called S)
  arguments = s.arguments_found env (t.with_arguments given) place

  abbrev written : Called S → Budget → Done Text
  written = s.call_written env (t.function_reference id given) id (env.find id)

  abbrev found : Called S → Budget → Done (Value S)
  found = s.call_found env (env.find id)

  -- what the function of the id gives, after its arguments
  abbrev pub calls : Budget → Done (Option (Value S))
  calls b = mapped (λ called. function_result env (env.find id) called.positional called.named) (arguments b)

  is-written : (b : Budget) → and_then (arguments b) written ≡ s.inline_written env i place b
  is-written b = sym (ap (λ x. s.inline_written env x place b) is ∙ inline-function env place b id given)

  is-found : (b : Budget) → and_then (arguments b) found ≡ s.value_found env i place b
  is-found b = sym (ap (λ x. s.value_found env x place b) is ∙ value-function env place b id given)

  -- some of its arguments was refused
  pub call-first : {r u : State} → TellsSome r u (calls r.budget) → TellsSome r u (s.inline_written env i place r.budget)
  call-first {r = r} h = tells-as (is-written r.budget) (tells-first written (tells-like (arguments r.budget) refl h))

  pub value-first : {r u : State} → TellsSome r u (calls r.budget) → TellsSome r u (s.value_found env i place r.budget)
  value-first {r = r} h = tells-as (is-found r.budget) (tells-first found (tells-like (arguments r.budget) refl h))

  module _ {o : Option (Value S)} {r u : State} (p : Finds o r u calls) where
    abbrev args : Called S
    args = (arguments r.budget).value

    args-found : Finds args r u arguments
    args-found = record { value = refl; state = p.state }

    -- it was called, and nothing more was told
    pub call-tells : TellsSome r u (s.inline_written env i place r.budget)
    call-tells = call-first (found-tells calls p)

    -- it gives a value
    pub call-writes : {x y : Text} {a : Value S} → o ≡ Some a → IsWithin u → y ≡ x ++ (s.result_written env id a (may_open 0)).value → Writes x y r u (s.inline_written env i place)
    call-writes {x = x} {y = y} {a = a} some within h =
        let known = call-known env u.budget (t.function_reference id given) id (env.find id) args a (sym p.value ∙ some) ∙ result-done env u.budget id a in
        writes-as _ _ (is-written r.budget) (finds-then-writes arguments args-found written (writes-done x y (s.result_written env id a (may_open 0)).value u (written args) within known h))

    pub value-finds : {a : Value S} → o ≡ Some a → IsWithin u → Finds a r u (s.value_found env i place)
    value-finds {a = a} some within =
        let known = found-known env u.budget (env.find id) args a (sym p.value ∙ some) in
        finds-as _ _ (is-found r.budget) (finds-then arguments args-found found (finds-done a a u (found args) within known refl))

    -- it is no function
    module _ (none : o ≡ None) where
      pub value-fails : IsWithin u → Finds v.error r u (s.value_found env i place)
      value-fails within =
          let nothing = found-unknown env u.budget (env.find id) args (sym p.value ∙ none) in
          finds-as _ _ (is-found r.budget) (finds-then arguments args-found found (finds-done v.error v.error u (found args) within nothing refl))

      module _ {name : Text} (copied : name ≡ id) where
        falls-back : faulty (braced (inline_fallback i)) (unknown (to_function name)) u.budget ≡ written args u.budget
        falls-back =
            ap (λ k. faulty (braced (inline_fallback i)) (unknown (to_function k)) u.budget) copied
            ∙ ap (λ k. faulty (braced (inline_fallback k)) (unknown (to_function id)) u.budget) is
            ∙ sym (call-unknown env u.budget (t.function_reference id given) id (env.find id) args (sym p.value ∙ none))

        pub call-fails : {x y : Text} {w : State} → Writes x y u w (faulty (braced (inline_fallback i)) (unknown (to_function name))) → Writes x y r w (s.inline_written env i place)
        call-fails h = writes-as _ _ (is-written r.budget) (finds-then-writes arguments args-found written (writes-as _ (written args) falls-back h))

        pub call-fails-tells : {w : State} → TellsSome u w (faulty (braced (inline_fallback i)) (unknown (to_function name)) u.budget) → TellsSome r w (s.inline_written env i place r.budget)
        call-fails-tells h = tells-as (is-written r.budget) (tells-found arguments args-found written (tells-as falls-back h))
