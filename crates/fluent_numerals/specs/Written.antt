-- What functions that write leave.
use Rattle.std.specs.Prelude.{◌≡◌, ◌++◌, IfOk, OnOk, Option, Result, option_map, String, string_bytes}
use Rattle.std.specs.Global.{Global}
use Rattle.fluent_number.specs.Decimal.{is_below_zero}
use Rattle.fluent_number.specs.Number.{Number}
use Rattle.fluent_numerals.specs.Lookup.{Locale, locale_for}
use Rattle.fluent_numerals.specs.Tagged.{Text}
use Rattle.fluent_numerals.specs.Text.{Layout, numeral_text, text_of_parts}
use Rattle.fluent_numerals.specs.declared.rounding.Parts.{Parts}

-- a number's text by what is shown of it
abbrev pub text_as : Locale → Layout → Number → Parts → Text
text_as l how n parts = text_of_parts l.forms how (is_below_zero n.value) n.options parts.whole parts.fraction parts.least

-- unless memory ran out, a text was put after the one that was there
abbrev pub Adds : {A E : Type 0} → Result A E → String Global → String Global → Text → Type 0
Adds result old new text = OnOk result (string_bytes new ≡ string_bytes old ++ text)

-- unless memory ran out, the result is a text
abbrev pub IsText : {E : Type 0} → Result (String Global) E → Text → Type 0
IsText result text = IfOk result (λ found. string_bytes found ≡ text)

-- the text of a number in the locale of a tag, if CLDR knows it
abbrev pub text_in : Text → Number → Option Text
text_in tag n = option_map (λ l. numeral_text l n) (locale_for tag)
