-- What resolving starts with, and what telling an error leaves.
use Rattle.std.specs.Prelude.{false, List, [], ◌∷◌, ◌++◌, Option, option_map}
use Rattle.fluent_errors.specs.Errors.{Reported, Unresolved, unresolved}
use Rattle.fluent_meaning.specs.Told.{State, budget_of}

-- these errors were told before, and nothing is opened or entered yet
abbrev pub fresh : Option (List Reported) → State
fresh errors = record { errors = errors; budget = budget_of false 0; placeables = 0; entered = 0 }

-- an error stands after those told before, where errors are wanted; nothing is counted
abbrev pub with_error : Unresolved → State → State
with_error e s = record {
  errors = option_map (λ es. es ++ unresolved e ∷ []) s.errors;
  budget = s.budget;
  placeables = s.placeables;
  entered = s.entered;
}
