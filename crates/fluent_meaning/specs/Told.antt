-- What resolving has done so far, and what a step makes of it.
use Rattle.std.specs.Prelude.{◌≡◌, ℕ, ◌+◌, ◌-◌, ◌^◌, min, Bool, if◌then◌else◌, List, ◌++◌, map, Option, option_map}
use Rattle.fluent_grammar.specs.Words.{Text}
use Rattle.fluent_errors.specs.Errors.{Reported, unresolved}
use Rattle.fluent_meaning.specs.Steps.{Budget, may_open, shut, Done}
use Rattle.fluent_meaning.specs.Substitution.{most_placeables}
use Rattle.fluent_meaning.specs.Work.{placeables_of}

-- the errors reported so far, if they are wanted, the budget, how many placeables were counted, the one too many among
-- them, and how many patterns were entered
pub record State : Type 0 where
  pub errors : Option (List Reported)
  pub budget : Budget
  pub placeables : ℕ
  pub entered : ℕ

-- the budget, from whether a placeable was one too many, and how many were counted
abbrev pub budget_of : Bool → ℕ → Budget
budget_of dirty placeables = if dirty then shut else may_open (most_placeables - placeables)

-- counts that stay at their greatest value: those of a byte, and of 128 bits
abbrev pub in_byte : ℕ → ℕ
in_byte n = min n (2 ^ 8 - 1)

abbrev pub capped : ℕ → ℕ
capped n = min n (2 ^ 128 - 1)

abbrev pub after : {A : Type 0} → State → Done A → State
after s a = record {
  errors = option_map (λ es. es ++ map unresolved a.errors) s.errors;
  budget = a.budget;
  placeables = in_byte (s.placeables + placeables_of a);
  entered = capped (s.entered + a.entered);
}

-- a step wrote its text after what a writer held, and reported its errors
pub record Writes (held now : Text) (s t : State) (step : Budget → Done Text) : Type 0 where
  pub text : now ≡ held ++ (step s.budget).value
  pub state : t ≡ after s (step s.budget)

-- a step found this value, and reported its errors
pub record Finds {A : Type 0} (found : A) (s t : State) (step : Budget → Done A) : Type 0 where
  pub value : found ≡ (step s.budget).value
  pub state : t ≡ after s (step s.budget)
