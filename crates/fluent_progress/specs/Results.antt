-- What calls, references and choices give.
use Rattle.std.specs.Prelude.{◌≡◌, List, [], Option, None, Some, IfOk, Result, if◌then◌else◌, map, option_copied, option_map}
use Rattle.fluent_ast.specs.Borrowed.{elements_of, name_of, variants_of}
use Rattle.fluent_ast.specs.declared.Identifier.{Identifier}
use Rattle.fluent_ast.specs.declared.Pattern.{Pattern}
use Rattle.fluent_ast.specs.declared.Variant.{Variant}
use Rattle.fluent_grammar.specs.Tree.{Elements, Expression}
use Rattle.fluent_grammar.specs.Words.{Text}
use Rattle.fluent_ids.specs.IdsView.{ids_view}
use Rattle.fluent_meaning.specs.Choice.{chosen, first_match}
use Rattle.fluent_meaning.specs.Environment.{Environment}
use Rattle.fluent_meaning.specs.Fallback.{braced, fallback}
use Rattle.fluent_meaning.specs.Ids.{Meaning, number_function, function, message, term, find}
use Rattle.fluent_meaning.specs.Steps.{Budget, is_shut, may_open}
use Rattle.fluent_meaning.specs.Substitution as s
use Rattle.fluent_progress.specs.Views.{resolved_in}
use Rattle.fluent_progress.specs.declared.context.Context.{Ghosts as Context}
use Rattle.fluent_progress.specs.declared.place.Surroundings.{Surroundings}
use Rattle.fluent_value.specs.ArgsView.{args_view}
use Rattle.fluent_value.specs.Builtins.{number_called}
use Rattle.fluent_value.specs.Matching.{Plurals}
use Rattle.fluent_value.specs.Value.{Value}
use Rattle.fluent_value.specs.View.{value_view}
use Rattle.fluent_value.specs.declared.args.FluentArgs.{FluentArgs}
use Rattle.fluent_value.specs.declared.custom.FluentType.{Ghosts as Custom}
use Rattle.fluent_value.specs.declared.scope.ValueScope.{Ghosts as Scope}
use Rattle.fluent_value.specs.declared.value.FluentValue.{FluentValue}
use denote.Ref.{Bor}

module _ {S F : Type 0} (env : Environment S F) where
  -- what a function gives for positional and named arguments, by what an id stands for; what is no function gives nothing
  abbrev pub function_result : Option (Meaning F) → List (Value S) → List (Text × Value S) → Option (Value S)
  function_result None positional named = None
  function_result (Some number_function) positional named = Some (number_called positional named)
  function_result (Some (function f)) positional named = Some (env.call f positional named)
  function_result (Some (message m)) positional named = None
  function_result (Some (term m)) positional named = None

module _ {C S : Type 0} (meaning : C → S) where
  -- the pattern of the first variant whose key matches a value
  abbrev pub match_of : Plurals → FluentValue C → List (Variant (Bor Text)) → Option Elements
  match_of plurals value variants = first_match plurals (value_view meaning value) (variants_of variants)

module _ {C S F : Type 0} (meaning : C → S) where
  -- the pattern of the variant that a value chooses
  abbrev pub choice_of : Environment S F → FluentValue C → List (Variant (Bor Text)) → Option Elements
  choice_of env value variants = chosen env.plurals (value_view meaning value) (variants_of variants)

  -- the text of a function's result
  abbrev pub result_text : Environment S F → Text → FluentValue C → Text
  result_text env id value = (s.result_written env id (value_view meaning value) (may_open 0)).value

module _ {C F E S : Type 0} {c : Custom C S} {e : Context E C F S} {v : Scope E C S} where
  -- on Ok this is what the function of an id gives for these arguments, if the id stands for one
  abbrev pub GivesCall : {X : Type 0} → Result (Option (FluentValue C)) X → Surroundings C F E S c e v → Text → List (FluentValue C) → FluentArgs C → Type 0
  GivesCall result place id positional named =
      IfOk result (λ value. option_map (value_view c.meaning) value ≡ function_result (resolved_in place) (find (ids_view F place.ids.now) id) (map (value_view c.meaning) positional) (args_view c.meaning named))

module _ {C F E S : Type 0} {c : Custom C S} {e : Context E C F S} {v : Scope E C S} (place : Surroundings C F E S c e v) (id : Identifier (Bor Text)) (attribute : Option (Identifier (Bor Text))) where
  -- what a message reference means
  abbrev pub message_meant : s.Target
  message_meant = s.message_target (name_of id) (option_map name_of attribute) (find (ids_view F place.ids.now) (name_of id))

  -- what a term reference means
  abbrev pub term_meant : s.Target
  term_meant = s.term_target (name_of id) (option_map name_of attribute) (find (ids_view F place.ids.now) (name_of id))

-- the elements of a pattern that was found
abbrev pub found_elements : Option (Bor (Pattern (Bor Text))) → Option Elements
found_elements found = option_map elements_of (option_copied found)

-- a name that was found
abbrev pub found_name : Option (Bor (Identifier (Bor Text))) → Option Text
found_name found = option_map name_of (option_copied found)

-- the fallback of an expression in braces, if one placeable was too many
abbrev pub closing_text : Budget → Expression → Text
closing_text budget expression = if is_shut budget then braced (fallback expression) else []
