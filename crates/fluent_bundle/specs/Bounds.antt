-- What a call of a scope takes at most, and how often an answer reports too many placeables.
use Rattle.std.specs.Prelude.{ℕ, suc, ◌+◌, ◌*◌, ◌≤◌, List, [], ◌∷◌}
use Rattle.std.specs.Global.{Vec}
use Rattle.fluent_resolver.specs.Asked.{told}
use Rattle.fluent_errors.specs.Errors.{Reported, overriding, damaged, unresolved}
use Rattle.fluent_errors.specs.declared.bundle.FluentError.{FluentError}
use denote.Ref.{Bor}
use Rattle.fluent_ast.specs.Borrowed.{elements_of, expression_of}
use Rattle.fluent_ast.specs.declared.Expression.{Expression}
use Rattle.fluent_ast.specs.declared.Pattern.{Pattern}
use Rattle.fluent_grammar.specs.Tree.{MaybeArguments}
use Rattle.fluent_grammar.specs.Words.{Text}
use Rattle.fluent_meaning.specs.Ids.{Ids}
use Rattle.fluent_meaning.specs.Steps.{Budget, left, may_open, shut}
use Rattle.fluent_meaning.specs.Work.{most_entered, times_too_many}
use Rattle.fluent_meaning.specs.WorkLaws.{most_with_arguments, most_with_expression}
use Rattle.fluent_bundle.specs.BundleView.{bundle_of}
use Rattle.fluent_bundle.specs.ScopeView.{state_of}
use Rattle.fluent_value.specs.declared.custom.FluentType.{Ghosts as Custom}
use Rattle.fluent_value.specs.declared.formatter.ValueFormatter.{Ghosts as Formatter}
use Rattle.fluent_value.specs.declared.function.FluentFunction.{Ghosts as Function}
use Rattle.fluent_value.specs.declared.plurals.MemoizerKind.{Ghosts as PluralSource}
use Rattle.fluent_bundle.specs.declared.resolver.scope.Scope.{Scope}

-- how many placeables may be counted: those that may still be opened and the one too many, and none once shut
abbrev pub may_count : Budget → ℕ
may_count (may_open k) = suc k
may_count shut = 0

module _ {M C F G T S : Type 0} {m : PluralSource M} {c : Custom C S} {f : Function F C S} {g : Formatter G C M S} where
  -- what the ids of a scope's bundle stand for
  abbrev pub ids_in : Scope M C F G T S m c f g → Ids F
  ids_in scope = (bundle_of scope.bundle.now).ids

  -- how many placeables may still be opened in a scope, none once it is shut
  abbrev pub left_in : Scope M C F G T S m c f g → ℕ
  left_in scope = left (state_of scope).budget

  -- How many patterns a call may enter, by the k placeables that are left and by R, the most references in one placeable of the
  -- bundle's entries and of what the call is given: 1 + k * R for a pattern that is referred to, (k + 1) * R for an expression
  -- and for arguments.
  abbrev pub enters_by_pattern : Scope M C F G T S m c f g → Pattern (Bor Text) → ℕ
  enters_by_pattern scope pattern = most_entered (ids_in scope) (elements_of pattern) (left_in scope)

  abbrev pub enters_by_expression : Scope M C F G T S m c f g → Expression (Bor Text) → ℕ
  enters_by_expression scope e = suc (left_in scope) * most_with_expression (ids_in scope) (expression_of e)

  abbrev pub enters_by_arguments : Scope M C F G T S m c f g → MaybeArguments → ℕ
  enters_by_arguments scope args = suc (left_in scope) * most_with_arguments (ids_in scope) args

  -- A call counts at most the placeables that it may count, and enters at most this many patterns. Neither count falls,
  -- so each stays at the greatest value of its type once there.
  pub record IsWithinWork (old new : Scope M C F G T S m c f g) (patterns : ℕ) : Type 0 where
    pub placeables : (state_of new).placeables ≤ (state_of old).placeables + may_count (state_of old).budget
    pub entered : (state_of new).entered ≤ (state_of old).entered + patterns
    pub placeables_stay : (state_of old).placeables ≤ (state_of new).placeables
    pub entered_stay : (state_of old).entered ≤ (state_of new).entered

-- how often errors report too many placeables
abbrev pub times_reported : List Reported → ℕ
times_reported [] = 0
times_reported (overriding kind id ∷ errors) = times_reported errors
times_reported (damaged e ∷ errors) = times_reported errors
times_reported (unresolved e ∷ errors) = times_too_many (e ∷ []) + times_reported errors

-- too many placeables are reported at most once more than they were
abbrev pub TellsTooManyOnce : Vec FluentError → Vec FluentError → Type 0
TellsTooManyOnce old new = times_reported (told new) ≤ suc (times_reported (told old))
