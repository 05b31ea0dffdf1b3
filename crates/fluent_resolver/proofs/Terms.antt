-- References to terms, by the term's own arguments.
use Rattle.std.proofs.Common.{◌≡◌, ◌∙◌, List, Option, ap, sym}
use Rattle.fluent_grammar.specs.Tree as t
use Rattle.fluent_grammar.specs.Words.{Text}
use Rattle.fluent_meaning.proofs.Equations.{inline-term}
use Rattle.fluent_meaning.proofs.Refusals.{tells-first, tells-found}
use Rattle.fluent_meaning.proofs.States.{finds-then-writes}
use Rattle.fluent_meaning.proofs.Writing.{writes-as}
use Rattle.fluent_meaning.specs.Environment.{Environment}
use Rattle.fluent_meaning.specs.Refused.{TellsSome}
use Rattle.fluent_meaning.specs.Steps.{Budget, Done, and_then, mapped}
use Rattle.fluent_meaning.specs.Substitution as s
use Rattle.fluent_meaning.specs.Substitution.{Surroundings}
use Rattle.fluent_meaning.specs.Told.{Finds, State, Writes}
use Rattle.fluent_value.specs.Value.{Value}
use Rattle.fluent_resolver.proofs.Parts.{found-tells, tells-as}

module _ {S F : Type 0} (env : Environment S F) (place : Surroundings S) {i : t.Inline} {id : Text} {attr : Option Text} {given : t.MaybeArguments} (is : i ≡ t.term_reference id attr given) where
  -- the term's own arguments
  abbrev pub owns : Budget → Done (List (Text × Value S))
  owns b = mapped (λ called. called.named) (s.arguments_found env given place b)

  abbrev written : List (Text × Value S) → Budget → Done Text
  written own = s.target_written env (s.pattern_written env) (t.term_reference id attr given) (s.term_target id attr (env.find id)) (s.in_term own place)

  is-written : (b : Budget) → and_then (owns b) written ≡ s.inline_written env i place b
  is-written b = sym (ap (λ x. s.inline_written env x place b) is ∙ inline-term env place b id attr given)

  -- some of its arguments was refused
  pub term-first : {r u : State} → TellsSome r u (owns r.budget) → TellsSome r u (s.inline_written env i place r.budget)
  term-first {r = r} h = tells-as (is-written r.budget) (tells-first written h)

  module _ {own : List (Text × Value S)} {r u : State} (p : Finds own r u owns) where
    -- nothing more was told
    pub term-tells : TellsSome r u (s.inline_written env i place r.budget)
    term-tells = term-first (found-tells owns p)

    -- what it means was written with them
    module _ {target : s.Target} {inner : Surroundings S} (meant : target ≡ s.term_target id attr (env.find id)) (at : inner ≡ s.in_term own place) where
      same : s.target_written env (s.pattern_written env) i target inner u.budget ≡ written own u.budget
      same =
          ap (λ x. s.target_written env (s.pattern_written env) x target inner u.budget) is
          ∙ ap (λ x. s.target_written env (s.pattern_written env) (t.term_reference id attr given) x inner u.budget) meant
          ∙ ap (λ x. s.target_written env (s.pattern_written env) (t.term_reference id attr given) (s.term_target id attr (env.find id)) x u.budget) at

      pub term-writes : {x y : Text} {z : State} → Writes x y u z (s.target_written env (s.pattern_written env) i target inner) → Writes x y r z (s.inline_written env i place)
      term-writes h = writes-as _ _ (is-written r.budget) (finds-then-writes owns p written (writes-as _ (written own) same h))

      pub term-refused : {z : State} → TellsSome u z (s.target_written env (s.pattern_written env) i target inner u.budget) → TellsSome r z (s.inline_written env i place r.budget)
      term-refused h = tells-as (is-written r.budget) (tells-found owns p written (tells-as same h))
