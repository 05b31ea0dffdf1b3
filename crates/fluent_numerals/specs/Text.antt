-- The text of a number in a locale, by UTS 35 and ECMA-402.
use Rattle.std.specs.Prelude.{ℕ, zero, suc, ◌+◌, ◌-◌, ◌/◌, ◌%◌, ◌^◌, Bool, ◌&&◌, ◌==◌, nat_lt, nat_le, if◌then◌else◌, List, [], ◌∷◌, ◌++◌, length, replicate, decimal, Option, Some, None, option_map, option_and_then, unwrap_or, unsigned_abs, encode_utf8, slice_index_or}
use Rattle.fluent_number.specs.Decimal.{is_below_zero}
use Rattle.fluent_number.specs.Number.{Number}
use Rattle.fluent_number.specs.Options.{Options}
use Rattle.fluent_number.specs.declared.options.FluentNumberStyle.{FluentNumberStyle}
use Rattle.fluent_number.specs.declared.options.FluentNumberStyle.TheVariants as style
use Rattle.fluent_number.specs.declared.options.FluentNumberCurrencyDisplayStyle.{FluentNumberCurrencyDisplayStyle}
use Rattle.fluent_number.specs.declared.options.FluentNumberCurrencyDisplayStyle.TheVariants as display
use Rattle.fluent_value.specs.Value.{Value, text, number, custom, none, error}
use Rattle.fluent_numerals.specs.Tagged.{Text}
use Rattle.fluent_numerals.specs.Forms.{Pattern, Form, Forms, Currency}
use Rattle.fluent_numerals.specs.Signs.{begins_with_sign, ends_with_sign}
use Rattle.fluent_numerals.specs.FormTable.{form_table}
use Rattle.fluent_numerals.specs.Currencies.{currency_of}
use Rattle.fluent_numerals.specs.Lookup.{Locale, named, text_for}
use Rattle.fluent_numerals.specs.Rounding.{shown_of, least_integer_digits}
use Rattle.fluent_numerals.specs.declared.rounding.Shown.{Shown}
use Rattle.fluent_numerals.specs.declared.pattern.Piece.{Piece}
use Rattle.fluent_numerals.specs.declared.pattern.Piece.TheVariants as piece

-- a no-break space
abbrev pub space : Text
space = encode_utf8 0xa0

-- A piece of an affix. UTS 35's currencySpacing: a space parts a currency from digits right beside it, unless it is a sign that
-- stands there.
abbrev pub piece_text : Forms → Text → Piece → Text
piece_text f symbol piece.Nothing = []
piece_text f symbol (piece.Literal c) = encode_utf8 c
piece_text f symbol piece.Minus = f.minus
piece_text f symbol piece.PercentSign = f.percent_sign
piece_text f symbol piece.Currency = symbol
piece_text f symbol piece.CurrencyBeforeDigits = symbol ++ (if ends_with_sign symbol then [] else space)
piece_text f symbol piece.CurrencyAfterDigits = (if begins_with_sign symbol then [] else space) ++ symbol

abbrev pub affix_text : Forms → Text → List Piece → Text
affix_text f symbol [] = []
affix_text f symbol (p ∷ ps) = piece_text f symbol p ++ affix_text f symbol ps

-- a digit, an ASCII byte, as the locale writes it
abbrev pub native : List ℕ → ℕ → Text
native digits c = encode_utf8 (slice_index_or digits (c - 48) c)

abbrev pub natives : List ℕ → Text → Text
natives digits [] = []
natives digits (c ∷ cs) = native digits c ++ natives digits cs

-- digits with zeros before them up to a least count
abbrev pub padded : ℕ → Text → Text
padded least digits = replicate (least - length digits) 48 ++ digits

-- whether a group ends before the last digits, of which there are this many
abbrev pub closes_group : Pattern → ℕ → Bool
closes_group p rest = nat_lt 0 p.secondary && (nat_le p.primary rest && (rest - p.primary) % p.secondary == 0)

abbrev pub grouped : List ℕ → Bool → ℕ → Pattern → Text → Text
grouped digits is_grouped group p [] = []
grouped digits is_grouped group p (c ∷ cs) =
    native digits c
    ++ ((if is_grouped && closes_group p (length cs) then encode_utf8 group else []) ++ grouped digits is_grouped group p cs)

-- The digits before the point. They are grouped if the locale has enough digits for it.
abbrev pub integer_text : Forms → Form → Bool → Text → Text
integer_text f form use_grouping ds =
    grouped f.digits (use_grouping && nat_le (form.pattern.primary + f.least_grouped) (length ds)) form.group form.pattern ds

-- a whole number, with zeros before it up to a least count of digits
abbrev pub whole_text : Forms → Form → Bool → ℕ → ℕ → Text
whole_text f form use_grouping least whole = integer_text f form use_grouping (padded least (decimal whole))

-- the digits after the point: down to the last one that isn't 0, and at least so many
abbrev pub fraction_digits : ℕ → ℕ → ℕ → Text
fraction_digits zero least fraction = replicate least 48
fraction_digits (suc k) least fraction =
    if fraction == 0 then replicate least 48
    else (48 + fraction / 10 ^ k) ∷ fraction_digits k (least - 1) (fraction % 10 ^ k)

abbrev pub fraction_text : Forms → Form → ℕ → ℕ → ℕ → Text
fraction_text f form places least fraction =
    if fraction == 0 && least == 0 then [] else encode_utf8 form.decimal ++ natives f.digits (fraction_digits places least fraction)

-- How a number of one style is written: the form, the currency as it is shown, the power of ten of units that are shown as one,
-- and how many digits after the point are usual.
pub record Layout : Type 0 where
  pub form : Form
  pub symbol : Text
  pub places : ℕ
  pub least : ℕ
  pub most : ℕ

abbrev pub number_layout : Forms → Layout
number_layout f = record { form = f.number; symbol = []; places = 18; least = 0; most = 3 }

-- a hundred times as much is shown
abbrev pub percent_layout : Forms → Layout
percent_layout f = record { form = f.percent; symbol = []; places = 16; least = 0; most = 0 }

-- A currency that has no entry is shown by its code as it is written, with two digits.
abbrev pub digits_of : Option Currency → ℕ
digits_of None = 2
digits_of (Some c) = c.digits

abbrev pub symbol_in : Text → Text → FluentNumberCurrencyDisplayStyle → Option Currency → Text
symbol_in tag code d None = code
symbol_in tag code display.Symbol (Some c) = unwrap_or (text_for c.symbols tag) c.symbol
symbol_in tag code display.Code (Some c) = c.code
symbol_in tag code display.Name (Some c) = c.code

abbrev pub form_in : Locale → Option Currency → Form
form_in l None = l.forms.currency
form_in l (Some c) =
    unwrap_or (option_map (λ f. f.currency) (option_and_then (named form_table) (text_for c.own l.tag))) l.forms.currency

abbrev pub money_layout : Locale → Text → FluentNumberCurrencyDisplayStyle → Layout
money_layout l code d =
    let c = currency_of code in
    record { form = form_in l c; symbol = symbol_in l.tag code d c; places = 18; least = digits_of c; most = digits_of c }

-- an amount of no currency is a number
abbrev pub amount_layout : Locale → Option Text → FluentNumberCurrencyDisplayStyle → Layout
amount_layout l None d = number_layout l.forms
amount_layout l (Some code) d = money_layout l code d

abbrev pub style_layout : Locale → FluentNumberStyle → Option Text → FluentNumberCurrencyDisplayStyle → Layout
style_layout l style.Decimal c d = number_layout l.forms
style_layout l style.Percent c d = percent_layout l.forms
style_layout l style.Currency c d = amount_layout l c d

abbrev pub layout : Locale → Options → Layout
layout l o = style_layout l o.style o.currency o.currency_display

-- what stands before and after the digits
abbrev pub prefix_of : Bool → Pattern → List Piece
prefix_of below p = if below then p.negative_prefix else p.prefix

abbrev pub suffix_of : Bool → Pattern → List Piece
suffix_of below p = if below then p.negative_suffix else p.suffix

-- a number's text, by what stands before the point, after it, and how many digits there are after it at least
abbrev pub text_of_parts : Forms → Layout → Bool → Options → ℕ → ℕ → ℕ → Text
text_of_parts f how below o whole fraction least =
    affix_text f how.symbol (prefix_of below how.form.pattern)
    ++ (whole_text f how.form o.use_grouping (least_integer_digits o) whole
    ++ (fraction_text f how.form how.places least fraction
    ++ affix_text f how.symbol (suffix_of below how.form.pattern)))

abbrev pub text_by : Forms → Layout → Bool → Options → Shown → Text
text_by f how below o s = text_of_parts f how below o (s.units / 10 ^ how.places) (s.units % 10 ^ how.places) s.least

-- The text of a number.
unfoldable pub numeral_text : Locale → Number → Text
numeral_text l n =
    let how = layout l n.options in
    text_by l.forms how (is_below_zero n.value) n.options (shown_of how.places how.least how.most n.options (unsigned_abs n.value))

-- The formatter's text of a value: of numbers alone.
abbrev pub value_text : {S : Type 0} → Locale → Value S → Option Text
value_text l (text t) = None
value_text l (number n) = Some (numeral_text l n)
value_text l (custom c) = None
value_text l none = None
value_text l error = None
