-- The names of arguments.
use Rattle.std.specs.Prelude.{◌≡◌, ℕ, List, map, Result, MatchResult}
use Rattle.std.specs.declared.cmp.Ordering.TheVariants.{Less, Equal, Greater}
use Rattle.std.specs.List.{HoldsAt}
use Rattle.std.specs.List.Sorted.{IsPartitionPoint}
use Rattle.std.specs.Cow.{cow_str_bytes}
use Rattle.fluent_value.specs.Args.{order}
use Rattle.fluent_value.specs.declared.args.Argument.{Argument}

module _ {C : Type 0} where
  -- the name of an argument
  abbrev pub name_of : Argument C → List ℕ
  name_of argument = cow_str_bytes argument.name

  -- the names of arguments, in their order
  abbrev pub names_of : List (Argument C) → List (List ℕ)
  names_of arguments = map name_of arguments

  -- the place of a name: where it stands, or else where it would
  abbrev pub IsPlaceOf : List ℕ → List (Argument C) → Result ℕ ℕ → Type 0
  IsPlaceOf name arguments place =
      MatchResult place (HoldsAt (λ it. order (name_of it) name ≡ Equal) arguments)
      (IsPartitionPoint (λ it. order (name_of it) name ≡ Less) (λ it. order (name_of it) name ≡ Greater) arguments)
