-- Pieces that are written to a program's own writer.
use Rattle.std.proofs.Common.{◌≡◌, ℕ, List, [], ◌∷◌, ◌++◌, refl, ap, sym, subst, ◌∙◌, append-nil}
use Rattle.std.proofs.lemmas.Result.{IfOk-from_err}
use Rattle.std.specs.Prelude.{IsErr, Result}
use Rattle.fluent_ast.specs.View.{Element, placeable, elements_of}
use Rattle.fluent_grammar.specs.Tree.{Elements, Expression}
use Rattle.fluent_grammar.specs.Words.{Text}
use Rattle.fluent_meaning.proofs.Refusals.{begins-none, tells-all, some-as, some-first, some-none, some-then}
use Rattle.fluent_meaning.proofs.Writing.{elements-append}
use Rattle.fluent_meaning.specs.Environment.{Environment}
use Rattle.fluent_meaning.specs.Refused.{TellsSome, WritesSome}
use Rattle.fluent_meaning.specs.Steps.{Budget, Done}
use Rattle.fluent_meaning.specs.Substitution as s
use Rattle.fluent_meaning.specs.Substitution.{Surroundings, Writer}
use Rattle.fluent_meaning.specs.Told.{State, Writes}
use Rattle.fluent_progress.proofs.Telling.{on-err}
use Rattle.fluent_progress.specs.Depth.{IfPast, open_in}
use Rattle.fluent_progress.specs.Views.{state}
use Rattle.fluent_progress.specs.declared.progress.Progress.{Progress}
use Rattle.fluent_resolver.specs.Pieces.{ResolvesTo}

-- a piece that was made was written
pub piece-written : {x y empty piece : Text} {s t : State} (f : Budget → Done Text) → empty ≡ [] → Writes empty piece s t f → y ≡ x ++ piece → Writes x y s t f
piece-written {x = x} {s = s} f e p h = record { text = h ∙ ap (λ r. x ++ r) (p.text ∙ ap (λ m. m ++ (f s.budget).value) e); state = p.state }

-- it was refused
pub piece-refused : {x y empty piece : Text} {s t : State} (f : Budget → Done Text) → Writes empty piece s t f → y ≡ x → WritesSome x y s t f
piece-refused {x = x} {s = s} f p h = record { written = []; first = begins-none (f s.budget).value; text = h ∙ sym (append-nil x); tells = tells-all (f s.budget) p.state }

-- it could not be made
pub piece-missing : {x : Text} {s t : State} (f : Budget → Done Text) → TellsSome s t (f s.budget) → WritesSome x x s t f
piece-missing {x = x} {s = s} f h = record { written = []; first = begins-none (f s.budget).value; text = sym (append-nil x); tells = h }

-- some of what was to be written was
pub stops : {W T E : Type 0} {text : W → Text} {r : Result T E} {held now : W} {old new : Progress} {step : Progress → Budget → Done Text} {takes : Progress → ℕ → Type 0} → IsErr r → WritesSome (text held) (text now) (state old) (state new) (step old) → IfPast (open_in old.stack) (open_in new.stack) (takes old) → ResolvesTo text r held now old new step takes
stops {r = r} err h d = record {
  wrote = IfOk-from_err r _ err;
  refused = on-err r h;
  path = IfOk-from_err r _ err;
  stack = IfOk-from_err r _ err;
  deep = on-err r d;
}

module _ {S F : Type 0} (env : Environment S F) (write : Writer env Expression) (whole : Elements) (place : Surroundings S) (xs : List Element) {held now : Text} {r u : State} (p : Writes held now r u (λ b. s.elements_with env write whole (elements_of xs) place b)) where
  -- what was refused after other elements
  before-refused : {next : Text} {v : State} (ys : List Element) → WritesSome now next u v (λ b. s.elements_with env write whole (elements_of ys) place b) → WritesSome held next r v (λ b. s.elements_with env write whole (elements_of (xs ++ ys)) place b)
  before-refused ys h =
      some-as _ _ (sym (elements-append env write whole place xs ys r.budget))
      (some-then (λ b. s.elements_with env write whole (elements_of xs) place b) (λ b. s.elements_with env write whole (elements_of ys) place b) p h)

  -- nothing of a text
  pub text-refused : {next : Text} (ys : List Element) → next ≡ now → WritesSome held next r u (λ b. s.elements_with env write whole (elements_of (xs ++ ys)) place b)
  text-refused ys h = before-refused ys (subst (λ x. WritesSome now x u u (λ b. s.elements_with env write whole (elements_of ys) place b)) (sym h) (some-none now (λ b. s.elements_with env write whole (elements_of ys) place b) refl))

  -- some of a placeable
  pub placeable-refused : {next : Text} {v : State} (e : Expression) (ys : List Element) → WritesSome now next u v (s.placeable_with env write whole e place) → WritesSome held next r v (λ b. s.elements_with env write whole (elements_of (xs ++ placeable e ∷ ys)) place b)
  unfolding s.elements_with
  placeable-refused e ys h = before-refused (placeable e ∷ ys) (some-first (s.placeable_with env write whole e place) (λ c. s.elements_with env write whole (elements_of ys) place c) h)
