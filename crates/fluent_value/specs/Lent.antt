-- What is returned as it is, without a copy.
use Rattle.std.specs.Cow.{IsBorrowedStr}
use Rattle.fluent_value.specs.declared.value.FluentValue.{FluentValue}
use Rattle.fluent_value.specs.declared.value.FluentValue.TheVariants as of

module _ {C : Type 0} where
  -- a text that is borrowed
  abbrev pub IsBorrowedText : FluentValue C → Type 0
  IsBorrowedText (of.String s) = IsBorrowedStr s
  IsBorrowedText (of.Number n) = ⊥
  IsBorrowedText (of.Custom c) = ⊥
  IsBorrowedText of.None = ⊥
  IsBorrowedText of.Error = ⊥
