-- Values from integers.
use Rattle.std.specs.Prelude.{◌≡◌, ℤ}
use Rattle.fluent_number.specs.Number.{number_from_integer}
use Rattle.fluent_value.specs.Value.{number}
use Rattle.fluent_value.specs.View.{value_view}
use Rattle.fluent_value.specs.declared.value.FluentValue.{FluentValue}

-- a conversion gives the number that an integer is, with default options
abbrev pub GivesInteger : {C S T : Type 0} → (C → S) → (T → FluentValue C → Type 0) → (T → ℤ) → Type 0
GivesInteger {C} {S} {T} meaning gives integer = (t : T) (value : FluentValue C) → gives t value → value_view meaning value ≡ number (number_from_integer (integer t))
