-- The definition at a few numbers, by computing. Each row but the last four says what ECMA-402's `NumberFormat` says.
use Prim.Native.String.{String}
use Rattle.std.proofs.Common.{◌≡◌, refl, ℤ, Option, Some, None, pos}
use Rattle.std.specs.Char.{encode_utf8}
use Rattle.std.specs.Fmt.{digits}
use Rattle.std.specs.Prelude.{option_map, ◌*◌, ◌^◌, neg_ℤ}
use Rattle.fluent_number.specs.Number.{Number}
use Rattle.fluent_number.specs.Options.{Options, default_options}
use Rattle.fluent_number.specs.declared.options.FluentNumberStyle.TheVariants as style
use Rattle.fluent_number.specs.declared.options.FluentNumberCurrencyDisplayStyle.TheVariants as display
use Rattle.fluent_numerals.specs.Currencies.{currencies_1, currencies_2, currencies_3, currencies_4, currencies_5, currencies_6, currencies_7, currencies_8, currencies_9, currencies_10, currencies_11, currencies_12, currencies_13, currencies_14, currencies_15, currencies_16, currencies_17, currencies_18, currencies_19, currencies_20, currencies_21, currencies_22, signs}
use Rattle.fluent_numerals.specs.FormTable.{form_table}
use Rattle.fluent_numerals.specs.Locales.{locales_1, locales_2, locales_3, locales_4, locales_5}
use Rattle.fluent_numerals.specs.Lookup.{locale_for}
use Rattle.fluent_numerals.specs.Tagged.{Text, utf8}
use Rattle.fluent_numerals.specs.Text.{numeral_text}

abbrev written : String → ℤ → Options → Option Text
written tag value options = option_map (λ l. numeral_text l (record { value = value; options = options })) (locale_for (utf8 tag))

abbrev percent : Options
percent = record default_options { style = style.Percent }

abbrev money : String → Options
money code = record default_options { style = style.Currency; currency = Some (utf8 code) }

-- 1234567.8915
abbrev many : ℤ
many = pos (12345678915 * 10 ^ 14)

-- 1234.5, and 0.125
abbrev price : ℤ
price = pos (12345 * 10 ^ 17)

abbrev eighth : ℤ
eighth = pos (125 * 10 ^ 15)

english : written "en" many default_options ≡ Some (utf8 "1,234,567.892")
unfolding numeral_text form_table encode_utf8 locales_1 locales_2 locales_3 locales_4 locales_5 digits
english = refl

german : written "de_DE.UTF-8" many default_options ≡ Some (utf8 "1.234.567,892")
unfolding numeral_text form_table encode_utf8 locales_1 locales_2 locales_3 locales_4 locales_5 digits
german = refl

indian : written "hi" many default_options ≡ Some (utf8 "12,34,567.892")
unfolding numeral_text form_table encode_utf8 locales_1 locales_2 locales_3 locales_4 locales_5 digits
indian = refl

egyptian : written "ar-EG" many default_options ≡ Some (utf8 "\u{661}\u{66c}\u{662}\u{663}\u{664}\u{66c}\u{665}\u{666}\u{667}\u{66b}\u{668}\u{669}\u{662}")
unfolding numeral_text form_table encode_utf8 locales_1 locales_2 locales_3 locales_4 locales_5 digits
egyptian = refl

polish_thousand : written "pl" (pos (1234 * 10 ^ 18)) default_options ≡ Some (utf8 "1234")
unfolding numeral_text form_table encode_utf8 locales_1 locales_2 locales_3 locales_4 locales_5 digits
polish_thousand = refl

german_percent : written "de" eighth percent ≡ Some (utf8 "13\u{a0}%")
unfolding numeral_text form_table encode_utf8 locales_1 locales_2 locales_3 locales_4 locales_5 digits
german_percent = refl

german_euros : written "de" (neg_ℤ many) (money "EUR") ≡ Some (utf8 "-1.234.567,89\u{a0}€")
unfolding numeral_text form_table encode_utf8 locales_1 locales_2 locales_3 locales_4 locales_5 signs currencies_1 currencies_2 currencies_3 currencies_4 currencies_5 currencies_6 currencies_7 currencies_8 currencies_9 currencies_10 currencies_11 currencies_12 currencies_13 currencies_14 currencies_15 currencies_16 currencies_17 currencies_18 currencies_19 currencies_20 currencies_21 currencies_22 digits
german_euros = refl

swiss_francs : written "de-CH" (neg_ℤ many) (money "CHF") ≡ Some (utf8 "CHF-1'234'567.89")
unfolding numeral_text form_table encode_utf8 locales_1 locales_2 locales_3 locales_4 locales_5 signs currencies_1 currencies_2 currencies_3 currencies_4 currencies_5 currencies_6 currencies_7 currencies_8 currencies_9 currencies_10 currencies_11 currencies_12 currencies_13 currencies_14 currencies_15 currencies_16 currencies_17 currencies_18 currencies_19 currencies_20 currencies_21 currencies_22 digits
swiss_francs = refl

code_beside_digits : written "en" many (record (money "EUR") { currency_display = display.Code }) ≡ Some (utf8 "EUR\u{a0}1,234,567.89")
unfolding numeral_text form_table encode_utf8 locales_1 locales_2 locales_3 locales_4 locales_5 signs currencies_1 currencies_2 currencies_3 currencies_4 currencies_5 currencies_6 currencies_7 currencies_8 currencies_9 currencies_10 currencies_11 currencies_12 currencies_13 currencies_14 currencies_15 currencies_16 currencies_17 currencies_18 currencies_19 currencies_20 currencies_21 currencies_22 digits
code_beside_digits = refl

small_letters : written "en" many (record (money "eur") { currency_display = display.Code }) ≡ Some (utf8 "EUR\u{a0}1,234,567.89")
unfolding numeral_text form_table encode_utf8 locales_1 locales_2 locales_3 locales_4 locales_5 signs currencies_1 currencies_2 currencies_3 currencies_4 currencies_5 currencies_6 currencies_7 currencies_8 currencies_9 currencies_10 currencies_11 currencies_12 currencies_13 currencies_14 currencies_15 currencies_16 currencies_17 currencies_18 currencies_19 currencies_20 currencies_21 currencies_22 digits
small_letters = refl

yen : written "ja" many (money "JPY") ≡ Some (utf8 "￥1,234,568")
unfolding numeral_text form_table encode_utf8 locales_1 locales_2 locales_3 locales_4 locales_5 signs currencies_1 currencies_2 currencies_3 currencies_4 currencies_5 currencies_6 currencies_7 currencies_8 currencies_9 currencies_10 currencies_11 currencies_12 currencies_13 currencies_14 currencies_15 currencies_16 currencies_17 currencies_18 currencies_19 currencies_20 currencies_21 currencies_22 digits
yen = refl

three_digits : written "en" many (record default_options { maximum_significant_digits = Some 3 }) ≡ Some (utf8 "1,230,000")
unfolding numeral_text form_table encode_utf8 locales_1 locales_2 locales_3 locales_4 locales_5 digits
three_digits = refl

nothing_left : written "en" (neg_ℤ (pos (10 ^ 14))) default_options ≡ Some (utf8 "-0")
unfolding numeral_text form_table encode_utf8 locales_1 locales_2 locales_3 locales_4 locales_5 digits
nothing_left = refl

asked_of_number : written "de" price (record default_options { minimum_fraction_digits = Some 2 }) ≡ Some (utf8 "1.234,50")
unfolding numeral_text form_table encode_utf8 locales_1 locales_2 locales_3 locales_4 locales_5 digits
asked_of_number = refl

asked_of_money : written "de" price (record (money "EUR") { minimum_fraction_digits = Some 1; maximum_fraction_digits = Some 1 }) ≡ Some (utf8 "1.234,5\u{a0}€")
unfolding numeral_text form_table encode_utf8 locales_1 locales_2 locales_3 locales_4 locales_5 signs currencies_1 currencies_2 currencies_3 currencies_4 currencies_5 currencies_6 currencies_7 currencies_8 currencies_9 currencies_10 currencies_11 currencies_12 currencies_13 currencies_14 currencies_15 currencies_16 currencies_17 currencies_18 currencies_19 currencies_20 currencies_21 currencies_22 digits
asked_of_money = refl

written_money : written "de" price (record (money "EUR") { minimum_fraction_digits = Some 1 }) ≡ Some (utf8 "1.234,50\u{a0}€")
unfolding numeral_text form_table encode_utf8 locales_1 locales_2 locales_3 locales_4 locales_5 signs currencies_1 currencies_2 currencies_3 currencies_4 currencies_5 currencies_6 currencies_7 currencies_8 currencies_9 currencies_10 currencies_11 currencies_12 currencies_13 currencies_14 currencies_15 currencies_16 currencies_17 currencies_18 currencies_19 currencies_20 currencies_21 currencies_22 digits
written_money = refl

written_percent : written "de" eighth (record percent { minimum_fraction_digits = Some 3 }) ≡ Some (utf8 "13\u{a0}%")
unfolding numeral_text form_table encode_utf8 locales_1 locales_2 locales_3 locales_4 locales_5 digits
written_percent = refl

unknown_code : written "de" price (money "nope") ≡ Some (utf8 "1.234,50\u{a0}nope")
unfolding numeral_text form_table encode_utf8 locales_1 locales_2 locales_3 locales_4 locales_5 signs currencies_1 currencies_2 currencies_3 currencies_4 currencies_5 currencies_6 currencies_7 currencies_8 currencies_9 currencies_10 currencies_11 currencies_12 currencies_13 currencies_14 currencies_15 currencies_16 currencies_17 currencies_18 currencies_19 currencies_20 currencies_21 currencies_22 digits
unknown_code = refl

no_locale : written "tlh" many default_options ≡ None
unfolding numeral_text form_table encode_utf8 locales_1 locales_2 locales_3 locales_4 locales_5 digits
no_locale = refl
