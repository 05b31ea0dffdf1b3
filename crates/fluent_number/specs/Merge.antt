-- What `merge` makes of the options.
use Rattle.std.specs.Prelude.{◌≡◌, ℕ, Bool, not, Option, Some, option_map, unwrap_or, codes, bytes_eq, if◌then◌else◌}
use Rattle.fluent_number.specs.Conversion.{unsigned_of}
use Rattle.fluent_number.specs.Digits.{Text}
use Rattle.fluent_number.specs.Number.{Number}
use Rattle.fluent_number.specs.Options.{Options, options_of}
use Rattle.fluent_number.specs.declared.options.FluentNumberOptions.{FluentNumberOptions}
use Rattle.fluent_number.specs.declared.options.FluentNumberType.{FluentNumberType}
use Rattle.fluent_number.specs.declared.options.FluentNumberType.TheVariants.{Cardinal, Ordinal}
use Rattle.fluent_number.specs.declared.options.FluentNumberStyle.{FluentNumberStyle}
use Rattle.fluent_number.specs.declared.options.FluentNumberStyle.TheVariants.{Decimal, Currency, Percent}
use Rattle.fluent_number.specs.declared.options.FluentNumberCurrencyDisplayStyle.{FluentNumberCurrencyDisplayStyle}
use Rattle.fluent_number.specs.declared.options.FluentNumberCurrencyDisplayStyle.TheVariants.{Symbol, Code, Name}

-- the type, the style and the currency display that a text names; any other text names the default
abbrev pub number_type_named : Text → FluentNumberType
number_type_named text = if bytes_eq text (codes "ordinal") then Ordinal else Cardinal

abbrev pub style_named : Text → FluentNumberStyle
style_named text =
    if bytes_eq text (codes "currency") then Currency
    else (if bytes_eq text (codes "percent") then Percent else Decimal)

abbrev pub currency_display_named : Text → FluentNumberCurrencyDisplayStyle
currency_display_named text =
    if bytes_eq text (codes "code") then Code
    else (if bytes_eq text (codes "name") then Name else Symbol)

-- grouping is asked for unless the text is `false`
abbrev pub asks_for_grouping : Text → Bool
asks_for_grouping text = not (bytes_eq text (codes "false"))

-- a setting read from what stands under its key; it stays if there is nothing of its kind
abbrev pub updated : {V A : Type 0} → (V → A) → Option V → A → A
updated read found before = unwrap_or (option_map read found) before

-- a count of digits: a number's whole part, as a `usize`
abbrev pub count_of : Number → Option ℕ
count_of number = Some (unsigned_of 64 number.value)

-- the options that a source of these texts sets, but for the currency
abbrev pub with_texts : (Text → Option Text) → Options → Options
with_texts text before = record before {
  number_type = updated number_type_named (text (codes "type")) before.number_type;
  style = updated style_named (text (codes "style")) before.style;
  currency_display = updated currency_display_named (text (codes "currencyDisplay")) before.currency_display;
  use_grouping = updated asks_for_grouping (text (codes "useGrouping")) before.use_grouping;
}

-- the counts of digits that a source of these numbers sets
abbrev pub with_counts : (Text → Option Number) → Options → Options
with_counts number before = record before {
  minimum_integer_digits = updated count_of (number (codes "minimumIntegerDigits")) before.minimum_integer_digits;
  minimum_fraction_digits = updated count_of (number (codes "minimumFractionDigits")) before.minimum_fraction_digits;
  maximum_fraction_digits = updated count_of (number (codes "maximumFractionDigits")) before.maximum_fraction_digits;
  minimum_significant_digits = updated count_of (number (codes "minimumSignificantDigits")) before.minimum_significant_digits;
  maximum_significant_digits = updated count_of (number (codes "maximumSignificantDigits")) before.maximum_significant_digits;
}

-- The options after a merge with a source that has these texts and these numbers under its keys.
abbrev pub merged : (Text → Option Text) → (Text → Option Number) → Options → Options
merged text number before =
    let currency = updated Some (text (codes "currency")) before.currency in
    with_counts number (with_texts text (record before { currency = currency }))

-- the new options are the old ones after such a merge
abbrev pub Merges : (Text → Option Text) → (Text → Option Number) → FluentNumberOptions → FluentNumberOptions → Type 0
Merges text number old new = options_of new ≡ merged text number (options_of old)
