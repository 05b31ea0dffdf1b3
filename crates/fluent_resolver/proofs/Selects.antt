-- Selects, by the variant that is chosen.
use Rattle.std.proofs.Common.{◌≡◌, ◌∙◌, [], Option, Some, None, append-nil, refl, true, subst, sym}
use Rattle.fluent_errors.specs.Errors.{missing_default}
use Rattle.fluent_grammar.specs.Tree as t
use Rattle.fluent_grammar.specs.Tree.{Elements}
use Rattle.fluent_grammar.specs.Words.{Text}
use Rattle.fluent_meaning.proofs.Equations.{expression-select}
use Rattle.fluent_meaning.proofs.Refusals.{tells-first, tells-found}
use Rattle.fluent_meaning.proofs.States.{IsWithin, finds-then-writes}
use Rattle.fluent_meaning.proofs.Writing.{writes-as}
use Rattle.fluent_meaning.specs.Choice.{chosen}
use Rattle.fluent_meaning.specs.Environment.{Environment}
use Rattle.fluent_meaning.specs.Refused.{TellsSome}
use Rattle.fluent_meaning.specs.Steps.{Budget, Done, and_then, done, entering, mapped}
use Rattle.fluent_meaning.specs.Substitution as s
use Rattle.fluent_meaning.specs.Substitution.{Surroundings}
use Rattle.fluent_meaning.specs.Told.{Finds, State, Writes, after}
use Rattle.fluent_progress.proofs.Telling.{told-after}
use Rattle.fluent_progress.specs.Telling.{with_error}
use Rattle.fluent_resolver.proofs.Parts.{entered-tells, entered-writes, found-tells, tells-as}

module _ {S F : Type 0} (env : Environment S F) (place : Surroundings S) (i : t.Inline) (vs : t.Variants) where
  -- the pattern of the variant that is chosen
  abbrev pub chooses : Budget → Done (Option Elements)
  chooses b = mapped (λ x. chosen env.plurals x vs) (s.value_found env i place b)

  abbrev written : Option Elements → Budget → Done Text
  written o = s.variant_written env (s.pattern_written env) o place

  is-written : (b : Budget) → and_then (chooses b) written ≡ s.expression_written env (t.select i vs) place b
  is-written b = sym (expression-select env place b i vs)

  -- its selector was refused
  pub select-first : {r u : State} → TellsSome r u (chooses r.budget) → TellsSome r u (s.expression_written env (t.select i vs) place r.budget)
  select-first {r = r} h = tells-as (is-written r.budget) (tells-first written h)

  module _ {o : Option Elements} {r u : State} (p : Finds o r u chooses) where
    -- there is none
    pub none-writes : {x : Text} {w : State} → o ≡ None → IsWithin u → w ≡ with_error missing_default u → Writes x x r w (s.expression_written env (t.select i vs) place)
    none-writes {x = x} {w = w} none within h =
        let told : Writes x x u w (written None) = record { text = sym (append-nil x); state = h ∙ told-after {A = Text} [] missing_default u within refl } in
        writes-as _ _ (is-written r.budget) (finds-then-writes chooses p written (subst (λ k. Writes x x u w (written k)) (sym none) told))

    pub none-tells : {w : State} → w ≡ u → TellsSome r w (s.expression_written env (t.select i vs) place r.budget)
    none-tells h = select-first (subst (λ z. TellsSome r z (chooses r.budget)) (sym h) (found-tells chooses p))

    -- it was entered
    module _ {es : Elements} {q z : State} {at : Surroundings S} (some : o ≡ Some es) (counted : q ≡ after u (entering (done true u.budget))) (same : at ≡ place) where
      pub variant-writes : {x y : Text} → Writes x y q z (s.pattern_written env es at) → Writes x y r z (s.expression_written env (t.select i vs) place)
      variant-writes {x = x} {y = y} h =
          let entered = entered-writes counted (s.pattern_written env es place) (subst (λ p. Writes x y q z (s.pattern_written env es p)) same h) in
          writes-as _ _ (is-written r.budget) (finds-then-writes chooses p written (subst (λ k. Writes x y u z (written k)) (sym some) entered))

      pub variant-tells : TellsSome q z (s.pattern_written env es at q.budget) → TellsSome r z (s.expression_written env (t.select i vs) place r.budget)
      variant-tells h =
          let entered = entered-tells counted (s.pattern_written env es place) (subst (λ p. TellsSome q z (s.pattern_written env es p q.budget)) same h) in
          tells-as (is-written r.budget) (tells-found chooses p written (subst (λ k. TellsSome u z (written k u.budget)) (sym some) entered))
