-- Steps between opening and closing frames of the machine's stack, which changes nothing else.
use Rattle.std.proofs.Common.{◌≡◌, ◌∙◌, ℕ, suc, ◌+◌, ◌*◌, ◌<◌, subst, arith}
use Rattle.fluent_grammar.specs.Words.{Text}
use Rattle.fluent_meaning.specs.Refused.{TellsSome}
use Rattle.fluent_meaning.specs.Steps.{Budget, Done}
use Rattle.fluent_meaning.specs.Substitution as s
use Rattle.fluent_meaning.specs.Told.{Finds, State, Writes}
use Rattle.fluent_progress.specs.Views.{place_view, state}
use Rattle.fluent_progress.specs.declared.context.Context.{Ghosts as Context}
use Rattle.fluent_progress.specs.declared.place.Surroundings.{Surroundings}
use Rattle.fluent_progress.specs.declared.progress.Progress.{Progress}
use Rattle.fluent_value.specs.declared.custom.FluentType.{Ghosts as Custom}
use Rattle.fluent_value.specs.declared.scope.ValueScope.{Ghosts as Scope}
use Rattle.fluent_resolver.proofs.Places.{kept-place}

module _ {C F E S : Type 0} {c : Custom C S} {e : Context E C F S} {v : Scope E C S} (place : Surroundings C F E S c e v) (old opened : Progress) (same : state opened ≡ state old) (kept : opened.path ≡ old.path) where
  at : place_view place opened ≡ place_view place old
  at = kept-place place kept

  pub framed-tells : {A : Type 0} {u : State} (step : s.Surroundings S → Budget → Done A) → TellsSome (state opened) u (step (place_view place opened) (state opened).budget) → TellsSome (state old) u (step (place_view place old) (state old).budget)
  framed-tells {u = u} step h = subst (λ (r : State). TellsSome r u (step (place_view place old) r.budget)) same (subst (λ p. TellsSome (state opened) u (step p (state opened).budget)) at h)

  pub framed-finds : {A : Type 0} {found : A} {u t : State} (step : s.Surroundings S → Budget → Done A) → t ≡ u → Finds found (state opened) u (step (place_view place opened)) → Finds found (state old) t (step (place_view place old))
  framed-finds {found = found} {u = u} {t = t} step closed h =
      let there : Finds found (state old) u (step (place_view place old)) = subst (λ (r : State). Finds found r u (step (place_view place old))) same (subst (λ p. Finds found (state opened) u (step p)) at h) in
      record { value = there.value; state = closed ∙ there.state }

  pub framed-writes : {x y : Text} {u t : State} (step : s.Surroundings S → Budget → Done Text) → t ≡ u → Writes x y (state opened) u (step (place_view place opened)) → Writes x y (state old) t (step (place_view place old))
  framed-writes {x = x} {y = y} {u = u} step closed h =
      let there : Writes x y (state old) u (step (place_view place old)) = subst (λ (r : State). Writes x y r u (step (place_view place old))) same (subst (λ p. Writes x y (state opened) u (step p)) at h) in
      record { text = there.text; state = closed ∙ there.state }

-- what is left to do is the same
one-more : (m : ℕ) → m + 1 < m + 2
one-more m = omega arith

pub less-framed : (k n w x : ℕ) → k ≡ n → 4 * (suc k * w + x) + 1 < 4 * (suc n * w + x) + 2
less-framed k n w x h = subst (λ m. 4 * (suc k * w + x) + 1 < 4 * (suc m * w + x) + 2) h (one-more (4 * (suc k * w + x)))
