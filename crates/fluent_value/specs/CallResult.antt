-- What a call of a function gives.
use Rattle.std.specs.Prelude.{◌≡◌, ℕ, List, map}
use Rattle.fluent_value.specs.ArgsView.{args_view}
use Rattle.fluent_value.specs.Value.{Value}
use Rattle.fluent_value.specs.View.{value_view}
use Rattle.fluent_value.specs.declared.value.FluentValue.{FluentValue}
use Rattle.fluent_value.specs.declared.args.FluentArgs.{FluentArgs}

-- the value is what `gives` gives for positional values and named arguments
abbrev pub IsCallResult : {C S : Type 0} (meaning : C → S) (gives : List (Value S) → List (List ℕ × Value S) → Value S) → List (FluentValue C) → FluentArgs C → FluentValue C → Type 0
IsCallResult meaning gives positional named value = value_view meaning value ≡ gives (map (value_view meaning) positional) (args_view meaning named)
