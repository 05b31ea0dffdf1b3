-- A step of resolving takes no more than its bound, and so does the call of a scope that makes it.
use Rattle.std.proofs.Common.{◌≡◌, ℕ, suc, ◌+◌, ◌≤◌, List, [], ◌∷◌, ◌++◌, map, refl, ap, subst, arith}
use Rattle.std.specs.Global.{Vec}
use Rattle.std.specs.Prelude.{IfOk, OnErr, OnOk, Result, Ok, Err}
use Rattle.fluent_resolver.specs.Asked.{TellsAll, TellsFirst, told}
use Rattle.fluent_errors.specs.Errors.{Reported, Unresolved, cyclic, damaged, missing_default, no_value, overriding, too_many_placeables, unknown, unresolved}
use Rattle.fluent_errors.specs.declared.bundle.FluentError.{FluentError}
use denote.Ref.{Bor}
use Rattle.fluent_ast.specs.View.{expression_view, inline_view, pattern_view}
use Rattle.fluent_ast.specs.declared.Expression.{Expression}
use Rattle.fluent_ast.specs.declared.InlineExpression.{InlineExpression}
use Rattle.fluent_ast.specs.declared.Pattern.{Pattern}
use Rattle.fluent_grammar.specs.Tree.{MaybeArguments}
use Rattle.fluent_grammar.specs.Words.{Text}
use Rattle.fluent_meaning.proofs.ToldOnce.{times-append}
use Rattle.fluent_meaning.specs.Environment.{Environment}
use Rattle.fluent_meaning.specs.Refused.{Begins, CountsSome}
use Rattle.fluent_meaning.specs.Steps.{Budget, Done, left, may_open, shut}
use Rattle.fluent_meaning.specs.Substitution as s
use Rattle.fluent_meaning.specs.Work.{placeables_of, times_too_many}
use Rattle.fluent_meaning.specs.WorkLaws.{EntersWithinBound, Opens, OpensWithinBudget, times_shut}
use Rattle.fluent_bundle.proofs.Scopes.{scope-within}
use Rattle.fluent_bundle.specs.Bounds.{IsWithinWork, TellsTooManyOnce, enters_by_arguments, enters_by_expression, enters_by_pattern, ids_in, may_count, times_reported}
use Rattle.fluent_bundle.specs.ScopeSteps.{call_arguments, environment_in, inside, reference}
use Rattle.fluent_bundle.specs.ScopeView.{place_of, state_of}
use Rattle.fluent_value.specs.declared.custom.FluentType.{Ghosts as Custom}
use Rattle.fluent_value.specs.declared.formatter.ValueFormatter.{Ghosts as Formatter}
use Rattle.fluent_value.specs.declared.function.FluentFunction.{Ghosts as Function}
use Rattle.fluent_value.specs.declared.plurals.MemoizerKind.{Ghosts as PluralSource}
use Rattle.fluent_bundle.specs.declared.resolver.scope.Scope.{Scope}

-- ---- placeables

few-opened : (p q o m k l z : ℕ) → q ≤ p + (o + m) → o + l ≡ k → m + 0 ≡ z → z ≤ 1 → q ≤ p + suc k
few-opened p q o m k l z h e f g = omega (arith, h, e, f, g)

none-opened : (p q o m l z : ℕ) → q ≤ p + (o + m) → o + l ≡ 0 → m + 1 ≡ z → z ≤ 1 → q ≤ p + 0
none-opened p q o m l z h e f g = omega (arith, h, e, f, g)

shut-once : (b : Budget) → times_shut b ≤ 1
shut-once (may_open k) = omega arith
shut-once shut = omega arith

few-counted : {A : Type 0} (b : Budget) (p q : ℕ) (a : Done A) → q ≤ p + placeables_of a → Opens b a → q ≤ p + may_count b
few-counted (may_open k) p q a h o = few-opened p q a.opened (times_too_many a.errors) k (left a.budget) (times_shut a.budget) h o.counted o.told (shut-once a.budget)
few-counted shut p q a h o = none-opened p q a.opened (times_too_many a.errors) (left a.budget) (times_shut a.budget) h o.counted o.told (shut-once a.budget)

few-entered : (p q n most : ℕ) → q ≤ p + n → n ≤ most → q ≤ p + most
few-entered p q n most h e = omega (arith, h, e)

-- ---- calls of a scope

-- what holds however a call ends
pub of-both : {T E Q R : Type 0} (r : Result T E) (P : T → Type 0) → ((x : T) → P x → Q) → (R → Q) → IfOk r P → OnErr r R → Q
of-both (Ok x) P f g h k = f x h
of-both (Err e) P f g h k = g k

module _ {M C F G T S : Type 0} {m : PluralSource M} {c : Custom C S} {f : Function F C S} {g : Formatter G C M S} (old new : Scope M C F G T S m c f g) where
  step-within : {A : Type 0} (a : Done A) (most : ℕ) → CountsSome (state_of old) (state_of new) a → Opens (state_of old).budget a → a.entered ≤ most → IsWithinWork old new most
  step-within a most h o e = record {
    placeables = few-counted (state_of old).budget (state_of old).placeables (state_of new).placeables a h.placeables o;
    entered = few-entered (state_of old).entered (state_of new).entered a.entered most h.entered e;
    placeables_stay = subst (λ n. n ≤ (state_of new).placeables) (scope-within old).placeables h.placeables_stay;
    entered_stay = subst (λ n. n ≤ (state_of new).entered) (scope-within old).entered h.entered_stay;
  }

  module _ (t : T → Text → Text) (enters : EntersWithinBound S F) (opens : OpensWithinBudget S F) where
    abbrev env : Environment S F
    env = environment_in t old

    abbrev here : s.Surroundings S
    here = place_of old

    abbrev budget : Budget
    budget = (state_of old).budget

    pub reference-within : (i : InlineExpression (Bor Text)) (p : Pattern (Bor Text)) → CountsSome (state_of old) (state_of new) (reference t i p old budget) → IsWithinWork old new (enters_by_pattern old p)
    reference-within i p h =
        let inline = inline_view _ (λ s. s.now) i in let es = pattern_view _ (λ s. s.now) p in
        step-within (reference t i p old budget) (enters_by_pattern old p) h ((opens env).references inline es here budget) ((enters env (ids_in old)).references inline es here budget)

    pub expression-within : (p : Pattern (Bor Text)) (e : Expression (Bor Text)) → CountsSome (state_of old) (state_of new) (inside t p e old budget) → IsWithinWork old new (enters_by_expression old e)
    expression-within p e h =
        let whole = pattern_view _ (λ s. s.now) p in let inner = expression_view _ (λ s. s.now) e in
        step-within (inside t p e old budget) (enters_by_expression old e) h ((opens env).unmarked whole inner here budget) ((enters env (ids_in old)).unmarked whole inner here budget)

    pub arguments-within : (args : MaybeArguments) → CountsSome (state_of old) (state_of new) (call_arguments t args old budget) → IsWithinWork old new (enters_by_arguments old args)
    arguments-within args h =
        step-within (call_arguments t args old budget) (enters_by_arguments old args) h ((opens env).arguments args here budget) ((enters env (ids_in old)).arguments args here budget)

-- ---- errors of an answer

reported-append : (xs ys : List Reported) → times_reported (xs ++ ys) ≡ times_reported xs + times_reported ys
reported-append [] ys = omega arith
reported-append (overriding kind id ∷ xs) ys = reported-append xs ys
reported-append (damaged e ∷ xs) ys = reported-append xs ys
reported-append (unresolved e ∷ xs) ys = omega (arith, reported-append xs ys)

reported-is : (es : List Unresolved) → times_reported (map unresolved es) ≡ times_too_many es
reported-is [] = refl
reported-is (unknown r ∷ es) = omega (arith, reported-is es)
reported-is (no_value id ∷ es) = omega (arith, reported-is es)
reported-is (missing_default ∷ es) = omega (arith, reported-is es)
reported-is (cyclic ∷ es) = omega (arith, reported-is es)
reported-is (too_many_placeables ∷ es) = omega (arith, reported-is es)

first-fewer : {some whole : List Unresolved} → Begins some whole → times_too_many some ≤ times_too_many whole
first-fewer {some = some} h = omega (arith, ap times_too_many h.is, times-append some h.rest)

pub first-once : {A : Type 0} {old new : Vec FluentError} {a : Done A} → TellsFirst old new a → times_too_many a.errors ≤ 1 → TellsTooManyOnce old new
first-once {old = old} h once = omega (arith, ap times_reported h.errors, reported-append (told old) (map unresolved h.some), reported-is h.some, first-fewer h.first, once)

-- new errors that tell of too many placeables at most once
pub added-once : (old new : Vec FluentError) (es : List Unresolved) → told new ≡ told old ++ map unresolved es → times_too_many es ≤ 1 → TellsTooManyOnce old new
added-once old new es h once = omega (arith, ap times_reported h, reported-append (told old) (map unresolved es), reported-is es, once)

-- however the answer ends
pub told-once : {A T E : Type 0} (r : Result T E) (old new : Vec FluentError) (a : Done A) → OnOk r (TellsAll old new a) → OnErr r (TellsFirst old new a) → times_too_many a.errors ≤ 1 → TellsTooManyOnce old new
told-once (Ok x) old new a h k = added-once old new a.errors h
told-once (Err e) old new a h k = first-once {old = old} {new = new} {a = a} k
