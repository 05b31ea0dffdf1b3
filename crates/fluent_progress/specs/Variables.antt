-- Variables: their values, and what is written and reported if there is none.
use Rattle.std.specs.Prelude.{◌≡◌, true, IfOk, Option, OnOk, Result, option_map}
use Rattle.fluent_ast.specs.Borrowed.{name_of}
use Rattle.fluent_ast.specs.declared.Identifier.{Identifier}
use Rattle.fluent_grammar.specs.Words.{Text}
use Rattle.fluent_meaning.specs.Environment.{Environment, value_text}
use Rattle.fluent_meaning.specs.Steps.{Budget, Done}
use Rattle.fluent_meaning.specs.Substitution as s
use Rattle.fluent_meaning.specs.Told.{after}
use Rattle.fluent_progress.specs.Resolves.{FindsOnOk}
use Rattle.fluent_progress.specs.Given.{given_text}
use Rattle.fluent_progress.specs.Views.{arguments_of, given_args, place_view, resolved_in, state}
use Rattle.fluent_progress.specs.declared.context.Context.{Ghosts as Context}
use Rattle.fluent_progress.specs.declared.place.Surroundings.{Surroundings}
use Rattle.fluent_progress.specs.declared.progress.Progress.{Progress}
use Rattle.fluent_value.specs.Args.{argument}
use Rattle.fluent_value.specs.ArgsView.{args_view}
use Rattle.fluent_value.specs.Value.{Value}
use Rattle.fluent_value.specs.View.{value_view}
use Rattle.fluent_value.specs.declared.args.FluentArgs.{FluentArgs}
use Rattle.fluent_value.specs.declared.custom.FluentType.{Ghosts as Custom}
use Rattle.fluent_value.specs.declared.scope.ValueScope.{Ghosts as Scope}
use Rattle.fluent_value.specs.declared.value.FluentValue.{FluentValue}
use denote.Ref.{Bor}

module _ {S F : Type 0} (env : Environment S F) (id : Text) (place : s.Surroundings S) where
  -- a variable, looked up and written
  abbrev pub written_variable : Budget → Done Text
  written_variable = s.variable_written env id (s.variable env id place) place

  -- the value of a variable that is looked up
  abbrev pub found_variable : Budget → Done (Value S)
  found_variable = s.variable_found env id (s.variable env id place) place

module _ {C S : Type 0} (meaning : C → S) where
  -- the value of the argument of this name
  abbrev pub argument_of : FluentArgs C → Text → Option (Value S)
  argument_of arguments id = argument id (args_view meaning arguments)

  -- on Ok the result is a copy of this value, if there is one
  abbrev pub Copies : {X : Type 0} → Result (Option (FluentValue C)) X → Option (Value S) → Type 0
  Copies result value = IfOk result (λ copy. option_map (value_view meaning) copy ≡ value)

module _ {C F E S : Type 0} {c : Custom C S} {e : Context E C F S} {v : Scope E C S} where
  -- the value of the variable of this name: inside a term one of the term's arguments, else one of the request's
  abbrev pub variable_of : Surroundings C F E S c e v → Text → Option (Value S)
  variable_of place id = argument id (s.locals_or (arguments_of place) (given_args c.meaning place.locals))

  -- its text, or nothing if there is no such variable
  abbrev pub variable_text : Surroundings C F E S c e v → Text → Text
  variable_text place id = given_text (value_text (e.environment place.context.now)) (variable_of place id)

  -- on Ok a missing variable was reported, if it was missed outside a term
  abbrev pub ReportsMissing : {T X : Type 0} → Result T X → Surroundings C F E S c e v → Progress → Progress → Text → Type 0
  ReportsMissing result place old new id =
      OnOk result (state new ≡ after (state old) (s.missing_variable (resolved_in place) true id (place_view place old) (state old).budget))

  -- a variable of the place is written
  abbrev pub variable_step : Surroundings C F E S c e v → Identifier (Bor Text) → Progress → Budget → Done Text
  variable_step place id progress = written_variable (resolved_in place) (name_of id) (place_view place progress)

  -- the value of a variable of the place is found
  abbrev pub variable_value_step : Surroundings C F E S c e v → Identifier (Bor Text) → Progress → Budget → Done (Value S)
  variable_value_step place id progress = found_variable (resolved_in place) (name_of id) (place_view place progress)

  -- a call found the value of a variable
  abbrev pub FindsVariable : {X : Type 0} → Result (FluentValue C) X → Surroundings C F E S c e v → Progress → Progress → Identifier (Bor Text) → Type 0
  FindsVariable result place old new id = FindsOnOk (value_view c.meaning) result old new (variable_value_step place id)
