-- What setting arguments does, by a name and a value as they are and as they are converted.
use Rattle.std.specs.Prelude.{◌≡◌, ℕ, if◌then◌else◌, List, [], map, Option, IsSome, Result, is_ok}
use Rattle.std.specs.Global.{Global}
use Rattle.std.specs.Iterator.{Drains}
use Rattle.std.specs.List.{AllZip, insert}
use Rattle.std.specs.Cow.{cow_str_bytes}
use Rattle.std.specs.declared.borrow.CowStr.{CowStr}
use Rattle.fluent_value.specs.Args.{argument, with_argument, all_set}
use Rattle.fluent_value.specs.ArgsView.{args_view, pair_view}
use Rattle.fluent_value.specs.View.{value_view}
use Rattle.fluent_value.specs.declared.value.FluentValue.{FluentValue}
use Rattle.fluent_value.specs.declared.args.FluentArgs.{FluentArgs}

-- the arguments have a value of this name
abbrev pub HasName : {C S : Type 0} (meaning : C → S) → FluentArgs C → CowStr Global → Type 0
HasName meaning args name = IsSome (argument (cow_str_bytes name) (args_view meaning args))

-- unless memory ran out, the new list is the old one with this put in at an index
abbrev pub PutsIn : {A E X : Type 0} → Result A E → (old new : List X) → ℕ → X → Type 0
PutsIn result old new i x = new ≡ (if is_ok result then insert old i x else old)

-- the new arguments are the old ones, with this name and value
abbrev pub SetsPair : {C S : Type 0} (meaning : C → S) (old new : FluentArgs C) → CowStr Global × FluentValue C → Type 0
SetsPair meaning old new pair = args_view meaning new ≡ with_argument (cow_str_bytes pair.0) (value_view meaning pair.1) (args_view meaning old)

-- `names` and `values` say what a name and a value may be converted to
module _ {K V C : Type 0} (names : K → CowStr Global → Type 0) (values : V → FluentValue C → Type 0) where
  -- a pair may be converted to another
  abbrev pub ConvertsPair : K × V → CowStr Global × FluentValue C → Type 0
  ConvertsPair given pair = names given.0 pair.0 × values given.1 pair.1

  -- the new arguments are the old ones, with what a pair is converted to
  abbrev pub SetsConverted : {S : Type 0} (meaning : C → S) (old new : FluentArgs C) → K × V → Type 0
  SetsConverted meaning old new given = (pair : CowStr Global × FluentValue C) × ConvertsPair given pair × SetsPair meaning old new pair

  -- the arguments are what these pairs are converted to, set one after the other
  abbrev pub AreSetFrom : {S : Type 0} (meaning : C → S) → List (K × V) → FluentArgs C → Type 0
  AreSetFrom meaning given args = (pairs : List (CowStr Global × FluentValue C)) × AllZip ConvertsPair given pairs × (args_view meaning args ≡ all_set [] (map (pair_view meaning) pairs))

  -- the arguments are what the pairs of an iterator are converted to, set one after the other
  abbrev pub DrainsInto : {I S : Type 0} (steps : I → Option (K × V) → I → Type 0) → I → (meaning : C → S) → FluentArgs C → Type 0
  DrainsInto steps iterator meaning args = (given : List (K × V)) × Drains steps iterator given × AreSetFrom meaning given args
