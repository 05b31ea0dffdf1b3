-- A scope as plain data: what resolving has done in it, and where it is.
use Rattle.std.specs.Prelude.{◌≡◌, List, [], ◌∷◌, Option, None, Some, map, option_map}
use denote.Ref.{Bor}
use Rattle.fluent_ast.specs.Borrowed.{elements_of}
use Rattle.fluent_ast.specs.declared.Pattern.{Pattern}
use Rattle.fluent_errors.specs.View.{bundle_view}
use Rattle.fluent_grammar.specs.Tree.{Elements}
use Rattle.fluent_grammar.specs.Words.{Text}
use Rattle.fluent_meaning.specs.Substitution as s
use Rattle.fluent_meaning.specs.Told.{State, budget_of, capped, in_byte}
use Rattle.fluent_progress.specs.Views.{args_or_none, given_args}
use Rattle.fluent_value.specs.declared.custom.FluentType.{Ghosts as Custom}
use Rattle.fluent_value.specs.declared.formatter.ValueFormatter.{Ghosts as Formatter}
use Rattle.fluent_value.specs.declared.function.FluentFunction.{Ghosts as Function}
use Rattle.fluent_value.specs.declared.plurals.MemoizerKind.{Ghosts as PluralSource}
use Rattle.fluent_bundle.specs.declared.resolver.scope.Scope.{Scope}

-- the pattern whose placeables a caller writes, once one of them was tracked
abbrev pub root_of : Option (Bor (Pattern (Bor Text))) → List Elements
root_of None = []
root_of (Some pattern) = elements_of pattern.now ∷ []

module _ {M C F G T S : Type 0} {m : PluralSource M} {c : Custom C S} {f : Function F C S} {g : Formatter G C M S} where
  -- the patterns that are being written
  abbrev pub path_of : Scope M C F G T S m c f g → List Elements
  path_of scope = root_of scope.root

  -- what resolving has done
  abbrev pub state_of : Scope M C F G T S m c f g → State
  state_of scope = record {
    errors = option_map (λ list. map bundle_view list.now.items) scope.errors;
    budget = budget_of scope.dirty scope.placeables;
    placeables = in_byte scope.placeables;
    entered = capped scope.entered;
  }

  -- where resolving is: outside of terms
  abbrev pub place_of : Scope M C F G T S m c f g → s.Surroundings S
  place_of scope = record {
    arguments = args_or_none c.meaning (given_args c.meaning scope.arguments);
    locals = None;
    path = path_of scope;
  }

  -- what no call changes: the bundle, the arguments of the request, and which list errors are reported to
  pub record Keeps (old new : Scope M C F G T S m c f g) : Type 0 where
    pub bundle : new.bundle ≡ old.bundle
    pub arguments : new.arguments ≡ old.arguments
    pub list : option_map (λ list. list.ghost_name) new.errors ≡ option_map (λ list. list.ghost_name) old.errors
