-- If the limit is not met, it does not matter.
use Rattle.std.specs.Prelude.{◌≡◌, ℕ, ◌+◌, ◌-◌, ◌≤◌, List}
use Rattle.fluent_grammar.specs.Words.{Text}
use Rattle.fluent_grammar.specs.Tree.{Elements, Expression, Inline, Arguments}
use Rattle.fluent_errors.specs.Errors.{Unresolved}
use Rattle.fluent_value.specs.Value.{Value}
use Rattle.fluent_meaning.specs.Environment.{Environment}
use Rattle.fluent_meaning.specs.Steps.{Budget, may_open, Done}
use Rattle.fluent_meaning.specs.Substitution as s
use Rattle.fluent_meaning.specs.Substitution.{Surroundings, Called, outset}
use Rattle.fluent_meaning.specs.Unlimited.{Gives, Writes, WritesInline, Finds, Calls}

-- a step results in this value, these errors and this budget
pub record Comes {A : Type 0} (value : A) (errors : List Unresolved) (budget : Budget) (a : Done A) : Type 0 where
  pub same_value : a.value ≡ value
  pub same_errors : a.errors ≡ errors
  pub same_budget : a.budget ≡ budget

-- What has a result without a limit, for which n placeables open, has the same with k of them to open, if n is at most k; k - n are left.
pub record UnlimitedStays (S : Type 0) (F : Type 0) (env : Environment S F) : Type 0 where
  pub patterns : (es : Elements) (place : Surroundings S) (r : Text) (xs : List Unresolved) (n k : ℕ) → Gives env es es place r xs n → n ≤ k → Comes r xs (may_open (k - n)) (s.pattern_written env es place (may_open k))
  pub expressions : (e : Expression) (place : Surroundings S) (r : Text) (xs : List Unresolved) (n k : ℕ) → Writes env e place r xs n → n ≤ k → Comes r xs (may_open (k - n)) (s.expression_written env e place (may_open k))
  pub inlines : (i : Inline) (place : Surroundings S) (r : Text) (xs : List Unresolved) (n k : ℕ) → WritesInline env i place r xs n → n ≤ k → Comes r xs (may_open (k - n)) (s.inline_written env i place (may_open k))
  pub values : (i : Inline) (place : Surroundings S) (v : Value S) (xs : List Unresolved) (n k : ℕ) → Finds env i place v xs n → n ≤ k → Comes v xs (may_open (k - n)) (s.value_found env i place (may_open k))
  pub calls : (args : Arguments) (place : Surroundings S) (called : Called S) (xs : List Unresolved) (n k : ℕ) → Calls env args place called xs n → n ≤ k → Comes called xs (may_open (k - n)) (s.arguments_with env (s.pattern_written env) args place (may_open k))
  pub requests : (args : List (Text × Value S)) (es : Elements) (r : Text) (xs : List Unresolved) (n k : ℕ) → Gives env es es (outset args) r xs n → n ≤ k → Comes r xs (may_open (k - n)) (s.formatted env k args es)

abbrev pub LimitStays : Type 0 → Type 0 → Type 0
LimitStays S F = (env : Environment S F) → UnlimitedStays S F env

-- there is a count of placeables, with j of k left, for which it holds
pub record Counted (P : ℕ → Type 0) (j : ℕ) (k : ℕ) : Type 0 where
  pub count : ℕ
  pub holds : P count
  pub sum : count + j ≡ k

-- What ends with j of k placeables left, and so not shut, has the same result without a limit, with k - j placeables opened.
abbrev pub OpenIsUnlimited : Type 0 → Type 0 → Type 0
OpenIsUnlimited S F = (env : Environment S F) (es : Elements) (place : Surroundings S) (j k : ℕ) → (s.pattern_written env es place (may_open k)).budget ≡ may_open j
    → Counted (λ n. Gives env es es place (s.pattern_written env es place (may_open k)).value (s.pattern_written env es place (may_open k)).errors n) j k

-- Without a limit there is at most one result.
abbrev pub UnlimitedIsOne : Type 0 → Type 0 → Type 0
UnlimitedIsOne S F = (env : Environment S F) (es : Elements) (place : Surroundings S) (r q : Text) (xs ys : List Unresolved) (m n : ℕ) → Gives env es es place r xs m → Gives env es es place q ys n → (r ≡ q) × ((xs ≡ ys) × (m ≡ n))
