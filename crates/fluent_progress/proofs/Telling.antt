-- Telling an error is a step, and what refused steps tell.
use Rattle.std.proofs.Common.{◌≡◌, ℕ, ◌+◌, Bool, true, false, cond, Option, None, Some, [], ◌∷◌, refl, ap, sym, arith}
use Rattle.std.specs.Prelude.{is_some, OnErr, OnOk, Result, Ok, Err}
use Rattle.std.proofs.lemmas.Bool.{false≢true}
use Rattle.fluent_errors.specs.Errors.{Unresolved, unknown, to_variable}
use Rattle.fluent_grammar.specs.Words.{Text, dollar}
use Rattle.fluent_meaning.proofs.Refusals.{begins-all, counts-none, taken, tells-all, tells-like, tells-none}
use Rattle.fluent_meaning.proofs.States.{IsWithin}
use Rattle.fluent_meaning.specs.Environment.{Environment}
use Rattle.fluent_meaning.specs.Fallback.{braced}
use Rattle.fluent_meaning.specs.Refused.{TellsSome}
use Rattle.fluent_meaning.specs.Steps.{Budget, Done, done, faulty}
use Rattle.fluent_meaning.specs.Substitution.{Surroundings, missing_variable, variable_written}
use Rattle.fluent_meaning.specs.Told.{State, after, capped, in_byte}
use Rattle.fluent_meaning.specs.Work.{times_too_many}
use Rattle.fluent_value.specs.Value.{Value}
use Rattle.fluent_progress.specs.Telling.{with_error}
use Rattle.fluent_progress.specs.Views.{state}
use Rattle.fluent_progress.specs.declared.progress.Progress.{Progress}

-- what holds however a call ends, holds where it ends so
pub on-ok : {T E P : Type 0} (r : Result T E) → P → OnOk r P
on-ok (Ok x) p = p
on-ok (Err e) p = tt

pub on-err : {T E P : Type 0} (r : Result T E) → P → OnErr r P
on-err (Ok x) p = tt
on-err (Err e) p = p

byte_again : (n : ℕ) → in_byte (in_byte n) ≡ in_byte n
byte_again n = omega arith

capped_again : (n : ℕ) → capped (capped n) ≡ capped n
capped_again n = omega arith

-- what the code holds is within its range
pub within : (p : Progress) → IsWithin (state p)
within p = record { placeables = byte_again p.placeables; entered = capped_again p.entered }

none_told : (n m : ℕ) → m ≡ 0 → in_byte n ≡ n → n ≡ in_byte (n + (0 + m))
none_told n m h w = omega (arith, h, w)

none_entered : (n : ℕ) → capped n ≡ n → n ≡ capped (n + 0)
none_entered n w = omega (arith, w)

-- telling an error that isn't that of too many placeables
pub told-after : {A : Type 0} (v : A) (e : Unresolved) (s : State) → IsWithin s → times_too_many (e ∷ []) ≡ 0 → with_error e s ≡ after s (faulty v e s.budget)
told-after v e s w h = λ i. record {
  errors = (with_error e s).errors;
  budget = s.budget;
  placeables = none_told s.placeables (times_too_many (e ∷ [])) h w.placeables i;
  entered = none_entered s.entered w.entered i;
}

-- what a refused step tells: nothing, or all of its errors, or those of a step that tells the same
pub tells-same : {A : Type 0} {s t : State} (a : Done A) → t ≡ s → TellsSome s t a
tells-same a h = tells-none a h

pub tells-alike : {A B : Type 0} {s t : State} (a : Done A) (b : Done B) → taken b ≡ taken a → t ≡ after s b → TellsSome s t a
tells-alike a b e h = tells-like a e (tells-all b h)

-- a missing variable is told the same and takes the same, whatever stands for it
pub missing-taken : {S F A : Type 0} (env : Environment S F) (v : A) (id : Text) (place : Surroundings S) (b : Budget) → taken (missing_variable env true id place b) ≡ taken (missing_variable env v id place b)
missing-taken env v id place b = missing-by (is_some place.locals) v (unknown (to_variable id)) b
  where
    missing-by : {A : Type 0} (c : Bool) (v : A) (e : Unresolved) (b : Budget) → taken (cond c (done true b) (faulty true e b)) ≡ taken (cond c (done v b) (faulty v e b))
    missing-by true v e b = refl
    missing-by false v e b = refl

-- a variable that is missing was told, and its name refused
pub missed-tells : {S F : Type 0} {s t : State} (env : Environment S F) (id : Text) (o : Option (Value S)) (place : Surroundings S) → o ≡ None → t ≡ after s (missing_variable env true id place s.budget) → TellsSome s t (variable_written env id o place s.budget)
missed-tells {s = s} env id None place e h = tells-alike (variable_written env id None place s.budget) (missing_variable env true id place s.budget) (missing-taken env (braced (dollar ∷ id)) id place s.budget) h
missed-tells env id (Some v) place e h = absurd (some-none v e)
  where
    some-none : {A : Type 0} (v : A) → Some v ≡ None → ⊥
    some-none v e = false≢true (sym (ap is_some e))

-- where none was given there is none
pub not-given : {A : Type 0} (o : Option A) → false ≡ is_some o → o ≡ None
not-given None given = refl
not-given (Some v) given = absurd (false≢true given)

-- an error was told, and its text refused
pub faulty-tells : {A : Type 0} {s t : State} (v : A) (e : Unresolved) → t ≡ with_error e s → TellsSome s t (faulty v e s.budget)
faulty-tells {s = s} v e h = record {
  told = e ∷ [];
  first = begins-all (e ∷ []);
  errors = ap (λ (x : State). x.errors) h;
  counts = counts-none (faulty v e s.budget) (ap (λ (x : State). x.placeables) h) (ap (λ (x : State). x.entered) h);
}
