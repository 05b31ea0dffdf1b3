-- What the code hands down and on, as plain data.
use Rattle.std.specs.Prelude.{ℕ, Bool, List, [], ◌∷◌, Option, Some, None, option_map, map, string_bytes, if◌then◌else◌, length, take, ◌-◌}
use denote.Ref.{Bor}
use Rattle.fluent_ast.specs.View.{pattern_view}
use Rattle.fluent_ast.specs.declared.Pattern.{Pattern}
use Rattle.fluent_errors.specs.Errors.{no_value, unknown}
use Rattle.fluent_errors.specs.View.{bundle_view, reference_view}
use Rattle.fluent_grammar.specs.Tree.{Elements}
use Rattle.fluent_grammar.specs.Words.{Text}
use Rattle.fluent_ids.specs.IdsView.{ids_view}
use Rattle.fluent_meaning.specs.Environment.{Environment}
use Rattle.fluent_meaning.specs.Ids.{find}
use Rattle.fluent_meaning.specs.Substitution as s
use Rattle.fluent_meaning.specs.Told.{State, budget_of, capped, in_byte}
use Rattle.fluent_progress.specs.declared.context.Context.{Ghosts as Context}
use Rattle.fluent_progress.specs.declared.path.Path.{Path}
use Rattle.fluent_progress.specs.declared.place.Surroundings.{Surroundings}
use Rattle.fluent_progress.specs.declared.progress.Progress.{Progress}
use Rattle.fluent_progress.specs.declared.target.Target.{Target}
use Rattle.fluent_progress.specs.declared.target.Target.TheVariants as target
use Rattle.fluent_value.specs.ArgsView.{args_view}
use Rattle.fluent_value.specs.Value.{Value}
use Rattle.fluent_value.specs.declared.args.FluentArgs.{FluentArgs}
use Rattle.fluent_value.specs.declared.custom.FluentType.{Ghosts as Custom}
use Rattle.fluent_value.specs.declared.scope.ValueScope.{Ghosts as Scope}

-- a list that begins with this, if it is there
abbrev pub with_first : {A : Type 0} → Option A → List A → List A
with_first None rest = rest
with_first (Some first) rest = first ∷ rest

-- the patterns of a path, the last one entered last
abbrev pub patterns_on : Path → List (Bor (Pattern (Bor (List ℕ))))
patterns_on p = with_first p.first p.rest.items

-- the patterns that are being written, the last one entered last
abbrev pub entered_in : Progress → List (Bor (Pattern (Bor (List ℕ))))
entered_in p = patterns_on p.path

-- the same as plain data
abbrev pub path_of : Progress → List Elements
path_of p = map (λ x. pattern_view _ (λ s. s.now) x.now) (entered_in p)

-- the path without its last pattern, where that one was put there
abbrev pub path_left : Bool → Progress → List (Bor (Pattern (Bor (List ℕ))))
path_left is_root p = if is_root then take (length (entered_in p) - 1) (entered_in p) else entered_in p

-- what resolving has come to
abbrev pub state : Progress → State
state p = record {
  errors = option_map (λ es. map bundle_view es.items) p.errors;
  budget = budget_of p.dirty p.placeables;
  placeables = in_byte p.placeables;
  entered = capped p.entered;
}

-- what a reference means
abbrev pub target_view : Target → s.Target
target_view (target.There p) = s.there (pattern_view _ (λ s. s.now) p.now)
target_view (target.Unknown kind) = s.missing (unknown (reference_view kind))
target_view (target.NoValue id) = s.missing (no_value (string_bytes id))

module _ {C S : Type 0} (meaning : C → S) where
  -- arguments that may be absent, and those of a request, which are none then
  abbrev pub given_args : Option (Bor (FluentArgs C)) → Option (List (Text × Value S))
  given_args args = option_map (λ a. args_view meaning a.now) args

  -- or else these
  abbrev pub args_or : List (Text × Value S) → Option (List (Text × Value S)) → List (Text × Value S)
  args_or others None = others
  args_or others (Some args) = args

  abbrev pub args_or_none : Option (List (Text × Value S)) → List (Text × Value S)
  args_or_none args = args_or [] args

module _ {C F E S : Type 0} {c : Custom C S} {e : Context E C F S} {v : Scope E C S} where
  -- the arguments of the request: those that the place has, or else those of its context
  abbrev pub arguments_of : Surroundings C F E S c e v → List (Text × Value S)
  arguments_of place = args_or c.meaning (e.given place.context.now) (given_args c.meaning place.arguments)

  -- what is handed down
  abbrev pub place_view : Surroundings C F E S c e v → Progress → s.Surroundings S
  place_view place progress = record {
    arguments = arguments_of place;
    locals = given_args c.meaning place.locals;
    path = path_of progress;
  }

  -- the same, while no pattern is being written
  abbrev pub start_of : Surroundings C F E S c e v → s.Surroundings S
  start_of place = record {
    arguments = arguments_of place;
    locals = given_args c.meaning place.locals;
    path = [];
  }

  -- what patterns are resolved in, with the messages and terms that are handed down
  abbrev pub resolved_in : Surroundings C F E S c e v → Environment S F
  resolved_in place = let env = e.environment place.context.now in record {
    find = find (ids_view _ place.ids.now);
    call = env.call;
    isolating = env.isolating;
    transformed = env.transformed;
    formatted = env.formatted;
    plurals = env.plurals;
    shown = env.shown;
  }
