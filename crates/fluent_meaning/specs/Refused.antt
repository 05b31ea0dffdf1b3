-- What a refused call leaves: a beginning of what it was to write, and of the errors that it was to report.
use Rattle.std.specs.Prelude.{◌≡◌, ◌+◌, ◌≤◌, List, ◌++◌, map, option_map}
use Rattle.fluent_grammar.specs.Words.{Text}
use Rattle.fluent_errors.specs.Errors.{Unresolved, unresolved}
use Rattle.fluent_meaning.specs.Steps.{Budget, Done}
use Rattle.fluent_meaning.specs.Told.{State, capped, in_byte}
use Rattle.fluent_meaning.specs.Work.{placeables_of}

-- a list begins another one
pub record Begins {A : Type 0} (some : List A) (whole : List A) : Type 0 where
  pub rest : List A
  pub is : whole ≡ some ++ rest

-- no more is counted than a step counts, and nothing that was counted is lost
pub record CountsSome {A : Type 0} (s t : State) (a : Done A) : Type 0 where
  pub placeables : t.placeables ≤ s.placeables + placeables_of a
  pub entered : t.entered ≤ s.entered + a.entered
  pub placeables_stay : in_byte s.placeables ≤ t.placeables
  pub entered_stay : capped s.entered ≤ t.entered

-- the old errors stand, and after them the first of a step's, of which no more is counted than it counts
pub record TellsSome {A : Type 0} (s t : State) (a : Done A) : Type 0 where
  pub told : List Unresolved
  pub first : Begins told a.errors
  pub errors : t.errors ≡ option_map (λ es. es ++ map unresolved told) s.errors
  pub counts : CountsSome s t a

-- after what a writer held is a beginning of a step's text, and some of its errors are reported
pub record WritesSome (held now : Text) (s t : State) (step : Budget → Done Text) : Type 0 where
  pub written : Text
  pub first : Begins written (step s.budget).value
  pub text : now ≡ held ++ written
  pub tells : TellsSome s t (step s.budget)
