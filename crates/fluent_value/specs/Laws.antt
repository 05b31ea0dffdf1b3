-- What the laws of values say.
use Rattle.std.specs.Prelude.{◌≡◌, ◌↔◌, ℕ, Bool, List, Some, IsTrue}
use Rattle.std.specs.Map.{keys_of}
use Rattle.fluent_value.specs.Args.{argument, with_argument, IsAscending}
use Rattle.fluent_value.specs.Value.{Alike, Value, is_comparable}
use Rattle.fluent_value.specs.View.{value_view}
use Rattle.fluent_value.specs.declared.value.FluentValue.{FluentValue}

module _ {C S : Type 0} (meaning : C → S) where
  -- a test is true of two values exactly if they are alike
  abbrev pub TellsAlike : (S → S → Bool) → (FluentValue C → FluentValue C → Bool) → Type 0
  TellsAlike same test = (a b : FluentValue C) → IsTrue (test a b) ↔ Alike same (value_view meaning a) (value_view meaning b)

  -- a test is true of two values that stand for the same, unless they stand for nothing or for an error
  abbrev pub TellsCopies : (FluentValue C → FluentValue C → Bool) → Type 0
  TellsCopies test = (a b : FluentValue C) → value_view meaning a ≡ value_view meaning b → IsTrue (is_comparable (value_view meaning a)) → IsTrue (test a b)

module _ (S : Type 0) where
  -- the value that a name was given last is found under it
  abbrev pub LastValueStands : Type 0
  LastValueStands = (args : List (List ℕ × Value S)) (name : List ℕ) (value : Value S) → argument name (with_argument name value args) ≡ Some value

  -- what is found under another name stays
  abbrev pub OtherValuesStay : Type 0
  OtherValuesStay = (args : List (List ℕ × Value S)) (name other : List ℕ) (value : Value S) → (other ≡ name → ⊥) → argument other (with_argument name value args) ≡ argument other args

  -- names that ascend still do
  abbrev pub NamesStayAscending : Type 0
  NamesStayAscending = (args : List (List ℕ × Value S)) (name : List ℕ) (value : Value S) → IsAscending (keys_of args) → IsAscending (keys_of (with_argument name value args))
