-- The plain value that a value stands for, and what `==` answers.
use Rattle.std.specs.Prelude.{Bool, false, nat_eq}
use Rattle.std.specs.Cmp.Lexicographic.{pointwise}
use Rattle.std.specs.Cow.{cow_str_bytes}
use Rattle.fluent_number.specs.Number.{number_of}
use Rattle.fluent_number.specs.declared.number.FluentNumber.{FluentNumber}
use Rattle.fluent_value.specs.Value.{Value, text, number, custom, none, error}
use Rattle.fluent_value.specs.declared.value.FluentValue.{FluentValue}
use Rattle.fluent_value.specs.declared.value.FluentValue.TheVariants as of

module _ {C S : Type 0} (meaning : C → S) where
  -- the plain value
  abbrev pub value_view : FluentValue C → Value S
  value_view (of.String s) = text (cow_str_bytes s)
  value_view (of.Number n) = number (number_of n)
  value_view (of.Custom c) = custom (meaning c)
  value_view of.None = none
  value_view of.Error = error

  module _ (same : S → S → Bool) (same_number : FluentNumber → FluentNumber → Bool) where
    -- texts by their bytes, numbers and values of a program's own type by their own tests; nothing else is equal
    abbrev pub value_eq : FluentValue C → FluentValue C → Bool
    value_eq (of.String s) (of.String r) = pointwise nat_eq (cow_str_bytes s) (cow_str_bytes r)
    value_eq (of.String s) (of.Number n) = false
    value_eq (of.String s) (of.Custom c) = false
    value_eq (of.String s) of.None = false
    value_eq (of.String s) of.Error = false
    value_eq (of.Number n) (of.String s) = false
    value_eq (of.Number n) (of.Number m) = same_number n m
    value_eq (of.Number n) (of.Custom c) = false
    value_eq (of.Number n) of.None = false
    value_eq (of.Number n) of.Error = false
    value_eq (of.Custom c) (of.String s) = false
    value_eq (of.Custom c) (of.Number n) = false
    value_eq (of.Custom c) (of.Custom d) = same (meaning c) (meaning d)
    value_eq (of.Custom c) of.None = false
    value_eq (of.Custom c) of.Error = false
    value_eq of.None other = false
    value_eq of.Error other = false
