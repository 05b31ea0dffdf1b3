-- The arguments of a message, as C hands them over.
use Rattle.std.specs.Prelude.{◌≡◌, List, None, IsSome, All, Contains}
use Rattle.fluent_date.specs.declared.date_time.FluentDateTime.{FluentDateTime}
use Rattle.fluent_grammar.specs.Words.{Text}
use Rattle.fluent_value.specs.Args.{with_argument}
use Rattle.fluent_value.specs.Value.{Value}
use Rattle.fluent_kept.specs.Given.{HasTexts, pair_of, value_given}
use Rattle.fluent_kept.specs.declared.given.FluentArgument.{FluentArgument}
use Rattle.fluent_c.specs.declared.arguments.ArgumentRefusal.{ArgumentRefusal}
use Rattle.fluent_c.specs.declared.arguments.ArgumentRefusal.TheVariants.{Memory, NotUtf8, NoValue}

-- the values of arguments by their names, once this one was set
abbrev pub with_given : FluentArgument → List (Text × Value FluentDateTime) → List (Text × Value FluentDateTime)
with_given a args = with_argument (pair_of a).0 (pair_of a).1 args

-- its name and its text are UTF-8, and it has a value
abbrev pub IsTaken : FluentArgument → Type 0
IsTaken a = HasTexts a × IsSome (value_given a)

-- each of them is
abbrev pub AreTaken : List FluentArgument → Type 0
AreTaken = All IsTaken

-- this is why it isn't taken
abbrev pub IsRefusedFor : FluentArgument → ArgumentRefusal → Type 0
IsRefusedFor a Memory = Unit {0}
IsRefusedFor a NotUtf8 = ¬ (HasTexts a)
IsRefusedFor a NoValue = value_given a ≡ None

-- this is why one of them isn't
pub record AreRefusedFor (given : List FluentArgument) (refusal : ArgumentRefusal) : Type 0 where
  pub argument : FluentArgument
  pub stands : Contains given argument
  pub refused : IsRefusedFor argument refusal

-- one of them has no value
abbrev pub HoldsBad : List FluentArgument → Type 0
HoldsBad given = AreRefusedFor given NoValue
