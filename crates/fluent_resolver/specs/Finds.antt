-- What calls find, each by its step and by how many bytes of the stack it takes.
use Rattle.std.specs.Prelude.{Option, Result, map, option_map}
use Rattle.std.specs.Global.{Vec}
use Rattle.fluent_ast.specs.declared.CallArguments.{CallArguments}
use Rattle.fluent_ast.specs.declared.Identifier.{Identifier}
use Rattle.fluent_ast.specs.declared.InlineExpression.{InlineExpression}
use Rattle.fluent_ast.specs.declared.NamedArgument.{NamedArgument}
use Rattle.fluent_ast.specs.declared.Pattern.{Pattern}
use Rattle.fluent_ast.specs.declared.Variant.{Variant}
use Rattle.fluent_grammar.specs.Words.{Text}
use Rattle.fluent_progress.specs.Results.{found_elements}
use Rattle.fluent_progress.specs.declared.context.Context.{Ghosts as Context}
use Rattle.fluent_progress.specs.declared.place.Surroundings.{Surroundings}
use Rattle.fluent_progress.specs.declared.progress.Progress.{Progress}
use Rattle.fluent_resolver.specs.Nested.{arguments_take, call_takes, named_take, own_take, positional_take, text_takes, value_takes}
use Rattle.fluent_resolver.specs.Resolves.{Evaluates}
use Rattle.fluent_resolver.specs.Steps.{call_step, choice_step, named_step, own_step, positional_step, text_step, value_step}
use Rattle.fluent_value.specs.ArgsView.{args_view}
use Rattle.fluent_value.specs.View.{value_view}
use Rattle.fluent_value.specs.declared.args.FluentArgs.{FluentArgs}
use Rattle.fluent_value.specs.declared.custom.FluentType.{Ghosts as Custom}
use Rattle.fluent_value.specs.declared.scope.ValueScope.{Ghosts as Scope}
use Rattle.fluent_value.specs.declared.value.FluentValue.{FluentValue}
use denote.Ref.{Bor}

module _ {C F E S X : Type 0} {c : Custom C S} {e : Context E C F S} {v : Scope E C S} where
  -- a call found the value of an expression
  abbrev pub FindsValue : Result (FluentValue C) X → Surroundings C F E S c e v → Progress → Progress → InlineExpression (Bor Text) → Type 0
  FindsValue result place old new inline = Evaluates (value_view c.meaning) result old new (value_step place inline) (value_takes place inline)

  -- it found the text of an expression, as a value
  abbrev pub FindsText : Result (FluentValue C) X → Surroundings C F E S c e v → Progress → Progress → InlineExpression (Bor Text) → Type 0
  FindsText result place old new inline = Evaluates (value_view c.meaning) result old new (text_step place inline) (text_takes place inline)

  -- it found the values of positional arguments
  abbrev pub FindsValues : Result (Vec (FluentValue C)) X → Surroundings C F E S c e v → Progress → Progress → Vec (InlineExpression (Bor Text)) → Type 0
  FindsValues result place old new arguments =
      Evaluates (λ found. map (value_view c.meaning) found.items) result old new (positional_step place arguments) (positional_take place arguments)

  -- it found the values of named arguments
  abbrev pub FindsNamed : Result (FluentArgs C) X → Surroundings C F E S c e v → Progress → Progress → Vec (NamedArgument (Bor Text)) → Type 0
  FindsNamed result place old new arguments = Evaluates (args_view c.meaning) result old new (named_step place arguments) (named_take place arguments)

  -- it found the named arguments of a term reference
  abbrev pub FindsOwn : Result (FluentArgs C) X → Surroundings C F E S c e v → Progress → Progress → Option (CallArguments (Bor Text)) → Type 0
  FindsOwn result place old new arguments = Evaluates (args_view c.meaning) result old new (own_step place arguments) (own_take place arguments)

  -- it found what the function of an id gives
  abbrev pub Calls : Result (Option (FluentValue C)) X → Surroundings C F E S c e v → Progress → Progress → Identifier (Bor Text) → CallArguments (Bor Text) → Type 0
  Calls result place old new id arguments =
      Evaluates (option_map (value_view c.meaning)) result old new (call_step place id arguments) (arguments_take place arguments)

  -- it found that for a call that is a value
  abbrev pub CallsNested : Result (Option (FluentValue C)) X → Surroundings C F E S c e v → Progress → Progress → Identifier (Bor Text) → CallArguments (Bor Text) → Type 0
  CallsNested result place old new id arguments =
      Evaluates (option_map (value_view c.meaning)) result old new (call_step place id arguments) (call_takes place arguments)

  -- it chose a variant
  abbrev pub Chooses : Result (Option (Bor (Pattern (Bor Text)))) X → Surroundings C F E S c e v → Progress → Progress → InlineExpression (Bor Text) → Vec (Variant (Bor Text)) → Type 0
  Chooses result place old new selector variants =
      Evaluates found_elements result old new (choice_step place selector variants) (value_takes place selector)
