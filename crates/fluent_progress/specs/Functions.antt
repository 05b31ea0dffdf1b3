-- What functions give.
use Rattle.std.specs.Prelude.{◌≡◌, List, IfOk, Result, map}
use Rattle.fluent_ids.specs.Settings.{result_of}
use Rattle.fluent_ids.specs.EntryView.{function_meaning}
use Rattle.fluent_ids.specs.declared.entry.FunctionRef.{FunctionRef}
use Rattle.fluent_meaning.specs.Environment.{Environment}
use Rattle.fluent_value.specs.ArgsView.{args_view}
use Rattle.fluent_value.specs.View.{value_view}
use Rattle.fluent_value.specs.declared.args.FluentArgs.{FluentArgs}
use Rattle.fluent_value.specs.declared.value.FluentValue.{FluentValue}

-- on Ok this is what a function gives for these arguments
abbrev pub GivesResult : {C S F X : Type 0} → (C → S) → Environment S F → Result (FluentValue C) X → FunctionRef F → List (FluentValue C) → FluentArgs C → Type 0
GivesResult {F = F} meaning env result callee positional named =
    IfOk result (λ value. value_view meaning value ≡ result_of env.call (function_meaning F callee) (map (value_view meaning) positional) (args_view meaning named))
