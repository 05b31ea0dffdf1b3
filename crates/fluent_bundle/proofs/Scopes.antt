-- What a scope hands on and takes back.
use Rattle.std.proofs.Common.{◌≡◌, ◌∙◌, ◌++◌, ℕ, Option, None, Some, Bor, map, option_map, refl, ap, sym, subst, arith}
use Rattle.std.specs.Prelude.{is_some}
use Rattle.std.specs.Borrow.{MutBor}
use Rattle.std.specs.Global.{Vec}
use Rattle.fluent_errors.specs.Errors.{Reference, reference_of, unknown, unresolved}
use Rattle.fluent_errors.specs.View.{bundle_view}
use Rattle.fluent_errors.specs.declared.bundle.FluentError.{FluentError}
use Rattle.fluent_grammar.specs.Tree.{Inline}
use Rattle.fluent_grammar.specs.Words.{Text}
use Rattle.fluent_meaning.proofs.Refusals.{begins-as}
use Rattle.fluent_meaning.proofs.States.{IsWithin}
use Rattle.fluent_meaning.specs.Environment.{Environment}
use Rattle.fluent_meaning.specs.Refused.{CountsSome, TellsSome}
use Rattle.fluent_meaning.specs.Steps.{Budget, Done}
use Rattle.fluent_meaning.specs.Substitution as s
use Rattle.fluent_meaning.specs.Told.{Finds, State, Writes, after, capped, in_byte}
use Rattle.fluent_progress.specs.Views as v
use Rattle.fluent_progress.specs.Views.{args_or_none, given_args, state}
use Rattle.fluent_progress.specs.declared.lent.BorrowedSettings.{BorrowedSettings}
use Rattle.fluent_progress.specs.declared.progress.Progress.{Progress}
use Rattle.fluent_bundle.proofs.LentBundle.{env_lent, lent-is}
use Rattle.fluent_bundle.specs.BundleView.{IsLent, bundle_of, environment_of}
use Rattle.fluent_bundle.specs.ScopeView.{Keeps, path_of, place_of, state_of}
use Rattle.fluent_bundle.specs.declared.bundle.FluentBundle.{FluentBundle}
use Rattle.fluent_value.specs.declared.custom.FluentType.{Ghosts as Custom}
use Rattle.fluent_value.specs.declared.formatter.ValueFormatter.{Ghosts as Formatter}
use Rattle.fluent_value.specs.declared.function.FluentFunction.{Ghosts as Function}
use Rattle.fluent_value.specs.declared.plurals.MemoizerKind.{Ghosts as PluralSource}
use Rattle.fluent_bundle.specs.declared.resolver.scope.Scope.{Scope}

byte_again : (n : ℕ) → in_byte (in_byte n) ≡ in_byte n
byte_again n = omega arith

capped_again : (n : ℕ) → capped (capped n) ≡ capped n
capped_again n = omega arith

some-map : {A B : Type 0} (f : A → B) (o : Option A) → is_some (option_map f o) ≡ is_some o
some-map f None = refl
some-map f (Some x) = refl

-- errors are told wherever they were told before
wrote-listed : {x y : Text} {s t : State} (f : Budget → Done Text) → Writes x y s t f → is_some t.errors ≡ is_some s.errors
wrote-listed {s = s} f p = ap (λ (r : State). is_some r.errors) p.state ∙ some-map (λ es. es ++ map unresolved (f s.budget).errors) s.errors

found-listed : {A : Type 0} {a : A} {s t : State} (f : Budget → Done A) → Finds a s t f → is_some t.errors ≡ is_some s.errors
found-listed {s = s} f p = ap (λ (r : State). is_some r.errors) p.state ∙ some-map (λ es. es ++ map unresolved (f s.budget).errors) s.errors

told-listed : {A : Type 0} {s t : State} (a : Done A) → TellsSome s t a → is_some t.errors ≡ is_some s.errors
told-listed {s = s} a h = ap is_some h.errors ∙ some-map (λ es. es ++ map unresolved h.told) s.errors

-- the same step, from and to the same states
writes-same : {x y : Text} {s s' t t' : State} {f g : Budget → Done Text} → s ≡ s' → t' ≡ t → f ≡ g → Writes x y s t f → Writes x y s' t' g
writes-same {x = x} h e same p = record { text = p.text ∙ (λ i. x ++ (same i (h i).budget).value); state = e ∙ p.state ∙ (λ i. after (h i) (same i (h i).budget)) }

finds-same : {A : Type 0} {a : A} {s s' t t' : State} {f g : Budget → Done A} → s ≡ s' → t' ≡ t → f ≡ g → Finds a s t f → Finds a s' t' g
finds-same h e same p = record { value = p.value ∙ (λ i. (same i (h i).budget).value); state = e ∙ p.state ∙ (λ i. after (h i) (same i (h i).budget)) }

tells-same : {A : Type 0} {s s' t t' : State} {f g : Budget → Done A} → s ≡ s' → t' ≡ t → f ≡ g → TellsSome s t (f s.budget) → TellsSome s' t' (g s'.budget)
tells-same {A = A} h e same p = record {
  told = p.told;
  first = begins-as (λ i. (same i (h i).budget).errors) p.first;
  errors = ap (λ (r : State). r.errors) e ∙ p.errors ∙ (λ i. option_map (λ es. es ++ map unresolved p.told) (h i).errors);
  counts = subst (λ (x : State × State × Done A). CountsSome x.0 x.1 x.2) (λ i. (h i, sym e i, same i (h i).budget)) p.counts;
}

module _ {M C F G T S : Type 0} {m : PluralSource M} {c : Custom C S} {f : Function F C S} {g : Formatter G C M S} where
  pub scope-within : (scope : Scope M C F G T S m c f g) → IsWithin (state_of scope)
  scope-within scope = record { placeables = byte_again scope.placeables; entered = capped_again scope.entered }

  -- the list is put back wherever it was taken out
  still-listed : (old mid : Scope M C F G T S m c f g) (p q : Progress) → Keeps old mid → state p ≡ state_of old → is_some (state q).errors ≡ is_some (state p).errors → is_some mid.errors ≡ is_some q.errors
  still-listed old mid p q kept taken told =
      sym (some-map (λ (l : MutBor (Vec FluentError)). l.ghost_name) mid.errors)
      ∙ ap is_some kept.list
      ∙ some-map (λ (l : MutBor (Vec FluentError)). l.ghost_name) old.errors
      ∙ sym (some-map (λ (l : MutBor (Vec FluentError)). map bundle_view l.now.items) old.errors)
      ∙ sym (ap (λ (r : State). is_some r.errors) taken)
      ∙ sym told
      ∙ some-map (λ (es : Vec FluentError). map bundle_view es.items) q.errors

module _ {M C F G T S : Type 0} {m : PluralSource M} {c : Custom C S} {f : Function F C S} {g : Formatter G C M S}
    (t : T → Text → Text) (old mid end : Scope M C F G T S m c f g) (kept : Keeps old mid)
    (lent : BorrowedSettings M G T) (is_lent : IsLent (bundle_of mid.bundle.now) lent)
    (p q : Progress) (walked : v.path_of p ≡ path_of old) (taken : state p ≡ state_of old)
    (put : is_some mid.errors ≡ is_some q.errors → state_of end ≡ state q) where
  abbrev env_here : Environment S F
  env_here = env_lent t mid.bundle.now lent is_lent

  abbrev env_scope : Environment S F
  env_scope = environment_of t old.bundle.now

  abbrev here : s.Surroundings S
  here = record { arguments = args_or_none c.meaning (given_args c.meaning mid.arguments); locals = None; path = v.path_of p }

  envs : env_here ≡ env_scope
  envs = lent-is t mid.bundle.now lent is_lent ∙ ap (λ (b : Bor (FluentBundle M C F G T S m c f g)). environment_of t b.now) kept.bundle

  places : here ≡ place_of old
  places = λ i. record { arguments = args_or_none c.meaning (given_args c.meaning (kept.arguments i)); locals = None; path = walked i }

  step-is : {A : Type 0} (step : Environment S F → s.Surroundings S → Budget → Done A) → step env_here here ≡ step env_scope (place_of old)
  step-is step = λ i. step (envs i) (places i)

  pub put-writes : (step : Environment S F → s.Surroundings S → Budget → Done Text) {x y : Text} → Writes x y (state p) (state q) (step env_here here) → Writes x y (state_of old) (state_of end) (step env_scope (place_of old))
  put-writes step w = writes-same taken (put (still-listed old mid p q kept taken (wrote-listed (step env_here here) w))) (step-is step) w

  pub put-finds : {A : Type 0} (step : Environment S F → s.Surroundings S → Budget → Done A) {a : A} → Finds a (state p) (state q) (step env_here here) → Finds a (state_of old) (state_of end) (step env_scope (place_of old))
  put-finds step w = finds-same taken (put (still-listed old mid p q kept taken (found-listed (step env_here here) w))) (step-is step) w

  pub put-tells : {A : Type 0} (step : Environment S F → s.Surroundings S → Budget → Done A) → TellsSome (state p) (state q) (step env_here here (state p).budget) → TellsSome (state_of old) (state_of end) (step env_scope (place_of old) (state_of old).budget)
  put-tells step w = tells-same {f = step env_here here} {g = step env_scope (place_of old)} taken (put (still-listed old mid p q kept taken (told-listed (step env_here here (state p).budget) w))) (step-is step) w

-- what an expression refers to is told where it refers to anything
module _ {S F : Type 0} (env : Environment S F) (i : Inline) where
  pub missed-known : (r : Reference) → Some r ≡ reference_of i → s.fallen_back env i (unknown r) ≡ s.missed_written env i
  missed-known r e = λ j b. s.missed env i (e j) b

  pub missed-none : None ≡ reference_of i → s.missed env i None ≡ s.missed_written env i
  missed-none e = λ j b. s.missed env i (e j) b
