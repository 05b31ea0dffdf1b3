-- A number: a decimal and its options.
use Rattle.std.specs.Prelude.{ℤ}
use Rattle.fluent_number.specs.Conversion.{from_integer}
use Rattle.fluent_number.specs.Options.{Options, options_of, default_options}
use Rattle.fluent_number.specs.declared.number.FluentNumber.{FluentNumber}

-- a number without where its options lie in memory
pub record Number : Type 0 where
  pub value : ℤ
  pub options : Options

abbrev pub number_of : FluentNumber → Number
number_of number = record { value = number.value; options = options_of number.options }

-- the number that an integer is, with default options
abbrev pub number_from_integer : ℤ → Number
number_from_integer n = record { value = from_integer n; options = default_options }
