-- The arguments of a call, as plain data.
use Rattle.std.specs.Prelude.{[], map, Result}
use Rattle.std.specs.Global.{Vec}
use Rattle.fluent_ast.specs.declared.CallArguments.{CallArguments}
use Rattle.fluent_grammar.specs.Words.{Text}
use Rattle.fluent_meaning.specs.Substitution as s
use Rattle.fluent_progress.specs.Resolves.{FindsOnOk}
use Rattle.fluent_progress.specs.declared.context.Context.{Ghosts as Context}
use Rattle.fluent_progress.specs.declared.place.Surroundings.{Surroundings}
use Rattle.fluent_progress.specs.declared.progress.Progress.{Progress}
use Rattle.fluent_resolver.specs.Steps.{arguments_step}
use Rattle.fluent_value.specs.ArgsView.{args_view}
use Rattle.fluent_value.specs.View.{value_view}
use Rattle.fluent_value.specs.declared.args.FluentArgs.{FluentArgs}
use Rattle.fluent_value.specs.declared.custom.FluentType.{Ghosts as Custom}
use Rattle.fluent_value.specs.declared.scope.ValueScope.{Ghosts as Scope}
use Rattle.fluent_value.specs.declared.value.FluentValue.{FluentValue}
use denote.Ref.{Bor}

-- positional arguments, and those with a name
abbrev pub called_of : {C S : Type 0} → (C → S) → Vec (FluentValue C) × FluentArgs C → s.Called S
called_of meaning found = record { positional = map (value_view meaning) found.0.items; named = args_view meaning found.1 }

-- without arguments
abbrev pub no_arguments : {S : Type 0} → s.Called S
no_arguments = record { positional = []; named = [] }

module _ {C F E S : Type 0} {c : Custom C S} {e : Context E C F S} {v : Scope E C S} where
  -- a call found the values of arguments
  abbrev pub FindsArguments : {X : Type 0} → Result (Vec (FluentValue C) × FluentArgs C) X → Surroundings C F E S c e v → Progress → Progress → CallArguments (Bor Text) → Type 0
  FindsArguments result place old new arguments = FindsOnOk (called_of c.meaning) result old new (arguments_step place arguments)
