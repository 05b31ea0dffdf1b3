-- The options of a number.
use Rattle.std.specs.Prelude.{ℕ, Bool, true, Option, None, option_map, string_bytes}
use Rattle.fluent_number.specs.Digits.{Text}
use Rattle.fluent_number.specs.declared.options.FluentNumberType.{FluentNumberType}
use Rattle.fluent_number.specs.declared.options.FluentNumberType.TheVariants.{Cardinal}
use Rattle.fluent_number.specs.declared.options.FluentNumberStyle.{FluentNumberStyle}
use Rattle.fluent_number.specs.declared.options.FluentNumberStyle.TheVariants.{Decimal}
use Rattle.fluent_number.specs.declared.options.FluentNumberCurrencyDisplayStyle.{FluentNumberCurrencyDisplayStyle}
use Rattle.fluent_number.specs.declared.options.FluentNumberCurrencyDisplayStyle.TheVariants.{Symbol}
use Rattle.fluent_number.specs.declared.options.FluentNumberOptions.{FluentNumberOptions}

-- the options without where their text lies in memory
pub record Options : Type 0 where
  pub number_type : FluentNumberType
  pub style : FluentNumberStyle
  pub currency : Option Text
  pub currency_display : FluentNumberCurrencyDisplayStyle
  pub use_grouping : Bool
  pub minimum_integer_digits : Option ℕ
  pub minimum_fraction_digits : Option ℕ
  pub maximum_fraction_digits : Option ℕ
  pub minimum_significant_digits : Option ℕ
  pub maximum_significant_digits : Option ℕ

abbrev pub options_of : FluentNumberOptions → Options
options_of options = record {
  number_type = options.number_type;
  style = options.style;
  currency = option_map string_bytes options.currency;
  currency_display = options.currency_display;
  use_grouping = options.use_grouping;
  minimum_integer_digits = options.minimum_integer_digits;
  minimum_fraction_digits = options.minimum_fraction_digits;
  maximum_fraction_digits = options.maximum_fraction_digits;
  minimum_significant_digits = options.minimum_significant_digits;
  maximum_significant_digits = options.maximum_significant_digits;
}

abbrev pub default_options : Options
default_options = record {
  number_type = Cardinal;
  style = Decimal;
  currency = None;
  currency_display = Symbol;
  use_grouping = true;
  minimum_integer_digits = None;
  minimum_fraction_digits = None;
  maximum_fraction_digits = None;
  minimum_significant_digits = None;
  maximum_significant_digits = None;
}
