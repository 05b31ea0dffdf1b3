-- One answer opens no more placeables than it may, and enters no more patterns than that allows.
use Rattle.std.specs.Prelude.{◌≡◌, ℕ, suc, ◌+◌, ◌*◌, max, ◌≤◌, ◌↔◌, List}
use Rattle.fluent_grammar.specs.Words.{Text}
use Rattle.fluent_grammar.specs.Tree.{Elements, no_elements, placeable, Expression, Inline, MaybeArguments}
use Rattle.fluent_value.specs.Value.{Value}
use Rattle.fluent_meaning.specs.Environment.{Environment}
use Rattle.fluent_meaning.specs.Ids.{Ids, find}
use Rattle.fluent_meaning.specs.ReachLaws.{over}
use Rattle.fluent_meaning.specs.Steps.{Budget, may_open, shut, left, Done}
use Rattle.fluent_meaning.specs.Substitution as s
use Rattle.fluent_meaning.specs.Substitution.{Surroundings}
use Rattle.fluent_meaning.specs.Work.{times_too_many, most_references, maybe_references, most_in_maybe, ids_most, most_entered}

-- the most references in one placeable: of a map of ids with a pattern, with an expression as one placeable, and with arguments
abbrev pub most_with_pattern : {F : Type 0} → Ids F → Elements → ℕ
most_with_pattern ids es = max (most_references es) (ids_most ids)

abbrev pub most_with_expression : {F : Type 0} → Ids F → Expression → ℕ
most_with_expression ids e = most_with_pattern ids (placeable e no_elements)

abbrev pub most_with_arguments : {F : Type 0} → Ids F → MaybeArguments → ℕ
most_with_arguments ids args = max (max (maybe_references args) (most_in_maybe args)) (ids_most ids)

-- How many patterns are entered with k placeables to open (none once shut), over a map of ids: for an asked pattern and for a
-- reference 1 + k * R; for an expression, for a placeable that was opened before, and for arguments (k + 1) * R.
pub record EntersAtMost (S : Type 0) (F : Type 0) (env : Environment S F) (ids : Ids F) : Type 0 where
  pub requests : (k : ℕ) (args : List (Text × Value S)) (es : Elements) → (s.formatted (over (find ids) env) k args es).entered ≤ most_entered ids es k
  pub references : (i : Inline) (es : Elements) (place : Surroundings S) (b : Budget) → (s.reference_written (over (find ids) env) i es place b).entered ≤ most_entered ids es (left b)
  pub expressions : (e : Expression) (place : Surroundings S) (b : Budget) → (s.expression_written (over (find ids) env) e place b).entered ≤ suc (left b) * most_with_expression ids e
  pub unmarked : (whole : Elements) (e : Expression) (place : Surroundings S) (b : Budget) → (s.unmarked_written (over (find ids) env) whole e place b).entered ≤ suc (left b) * most_with_expression ids e
  pub arguments : (args : MaybeArguments) (place : Surroundings S) (b : Budget) → (s.arguments_found (over (find ids) env) args place b).entered ≤ suc (left b) * most_with_arguments ids args

abbrev pub EntersWithinBound : Type 0 → Type 0 → Type 0
EntersWithinBound S F = (env : Environment S F) (ids : Ids F) → EntersAtMost S F env ids

abbrev pub times_shut : Budget → ℕ
times_shut (may_open k) = 0
times_shut shut = 1

-- A step leaves as many placeables to open as it had, less those that it opened. Too many are reported exactly if it
-- shuts, and once shut it stays so.
pub record Opens {A : Type 0} (b : Budget) (a : Done A) : Type 0 where
  pub counted : a.opened + left a.budget ≡ left b
  pub told : times_too_many a.errors + times_shut b ≡ times_shut a.budget

-- So with each pattern, reference, expression, opened placeable and list of arguments. A request with k to open opens at most k, and
-- too many are reported of it at most once, exactly if it ends shut.
pub record OpensAtMost (S : Type 0) (F : Type 0) (env : Environment S F) : Type 0 where
  pub patterns : (es : Elements) (place : Surroundings S) (b : Budget) → Opens b (s.pattern_written env es place b)
  pub references : (i : Inline) (es : Elements) (place : Surroundings S) (b : Budget) → Opens b (s.reference_written env i es place b)
  pub expressions : (e : Expression) (place : Surroundings S) (b : Budget) → Opens b (s.expression_written env e place b)
  pub unmarked : (whole : Elements) (e : Expression) (place : Surroundings S) (b : Budget) → Opens b (s.unmarked_written env whole e place b)
  pub arguments : (args : MaybeArguments) (place : Surroundings S) (b : Budget) → Opens b (s.arguments_found env args place b)
  pub requests : (k : ℕ) (args : List (Text × Value S)) (es : Elements) → Opens (may_open k) (s.formatted env k args es)
  pub opened_at_most : (k : ℕ) (args : List (Text × Value S)) (es : Elements) → (s.formatted env k args es).opened ≤ k
  pub told_once : (k : ℕ) (args : List (Text × Value S)) (es : Elements) → times_too_many (s.formatted env k args es).errors ≤ 1
  pub told_where_shut : (k : ℕ) (args : List (Text × Value S)) (es : Elements) → times_too_many (s.formatted env k args es).errors ≡ 1 ↔ (s.formatted env k args es).budget ≡ shut

abbrev pub OpensWithinBudget : Type 0 → Type 0 → Type 0
OpensWithinBudget S F = (env : Environment S F) → OpensAtMost S F env
