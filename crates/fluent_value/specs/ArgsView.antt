-- The plain arguments that arguments stand for.
use Rattle.std.specs.Prelude.{ℕ, List, map}
use Rattle.std.specs.Global.{Global}
use Rattle.std.specs.Cow.{cow_str_bytes}
use Rattle.std.specs.declared.borrow.CowStr.{CowStr}
use Rattle.fluent_value.specs.ArgsNames.{name_of}
use Rattle.fluent_value.specs.Value.{Value}
use Rattle.fluent_value.specs.View.{value_view}
use Rattle.fluent_value.specs.declared.value.FluentValue.{FluentValue}
use Rattle.fluent_value.specs.declared.args.Argument.{Argument}
use Rattle.fluent_value.specs.declared.args.FluentArgs.{FluentArgs}

-- the plain arguments of a list
abbrev pub pairs_view : {C S : Type 0} (meaning : C → S) → List (Argument C) → List (List ℕ × Value S)
pairs_view meaning arguments = map (λ it. (name_of it, value_view meaning it.value)) arguments

-- the plain arguments, in the order of their names
abbrev pub args_view : {C S : Type 0} (meaning : C → S) → FluentArgs C → List (List ℕ × Value S)
args_view meaning args = pairs_view meaning args.arguments.items

-- the plain pair that a pair stands for
abbrev pub pair_view : {C S : Type 0} (meaning : C → S) → CowStr Global × FluentValue C → List ℕ × Value S
pair_view meaning pair = (cow_str_bytes pair.0, value_view meaning pair.1)
