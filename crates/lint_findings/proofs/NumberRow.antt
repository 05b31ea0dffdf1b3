-- The row of `NUMBER` has the texts that `merge` reads: those of an option are the names of its values, each of which is
-- read as the value that it names.
use Rattle.std.specs.Prelude.{◌≡◌, Bool, true, false, List, [], ◌∷◌, map, Option, Some, codes}
use Rattle.std.proofs.Common.{refl}
use Rattle.fluent_grammar.specs.Words.{Text}
use Rattle.fluent_number.specs.Merge.{number_type_named, style_named, currency_display_named, asks_for_grouping}
use Rattle.fluent_number.specs.declared.options.FluentNumberType.{FluentNumberType}
use Rattle.fluent_number.specs.declared.options.FluentNumberType.TheVariants.{Cardinal, Ordinal}
use Rattle.fluent_number.specs.declared.options.FluentNumberStyle.{FluentNumberStyle}
use Rattle.fluent_number.specs.declared.options.FluentNumberStyle.TheVariants.{Decimal, Currency, Percent}
use Rattle.fluent_number.specs.declared.options.FluentNumberCurrencyDisplayStyle.{FluentNumberCurrencyDisplayStyle}
use Rattle.fluent_number.specs.declared.options.FluentNumberCurrencyDisplayStyle.TheVariants.{Symbol, Code, Name}
use Rattle.lint_findings.specs.Builtins.{Takes, a_number, any_text, one_of, number_row, taken_by}

-- what the option of this name takes
taken : Text → Option Takes
taken name = taken_by number_row.options name

-- ---- the kind of number

type_name : FluentNumberType → Text
type_name Cardinal = codes "cardinal"
type_name Ordinal = codes "ordinal"

types : taken (codes "type") ≡ Some (one_of (map type_name (Ordinal ∷ Cardinal ∷ [])))
unfolding taken type_name
types = refl

types_are_read : (kind : FluentNumberType) → number_type_named (type_name kind) ≡ kind
unfolding type_name
types_are_read Cardinal = refl
types_are_read Ordinal = refl

-- ---- the style

style_name : FluentNumberStyle → Text
style_name Decimal = codes "decimal"
style_name Currency = codes "currency"
style_name Percent = codes "percent"

styles : taken (codes "style") ≡ Some (one_of (map style_name (Decimal ∷ Percent ∷ Currency ∷ [])))
unfolding taken style_name
styles = refl

styles_are_read : (style : FluentNumberStyle) → style_named (style_name style) ≡ style
unfolding style_name
styles_are_read Decimal = refl
styles_are_read Currency = refl
styles_are_read Percent = refl

-- ---- how a currency is written

display_name : FluentNumberCurrencyDisplayStyle → Text
display_name Symbol = codes "symbol"
display_name Code = codes "code"
display_name Name = codes "name"

displays : taken (codes "currencyDisplay") ≡ Some (one_of (map display_name (Symbol ∷ Code ∷ Name ∷ [])))
unfolding taken display_name
displays = refl

displays_are_read : (display : FluentNumberCurrencyDisplayStyle) → currency_display_named (display_name display) ≡ display
unfolding display_name
displays_are_read Symbol = refl
displays_are_read Code = refl
displays_are_read Name = refl

-- ---- grouping

grouping_name : Bool → Text
grouping_name true = codes "true"
grouping_name false = codes "false"

groupings : taken (codes "useGrouping") ≡ Some (one_of (map grouping_name (true ∷ false ∷ [])))
unfolding taken grouping_name
groupings = refl

groupings_are_read : (is_grouped : Bool) → asks_for_grouping (grouping_name is_grouped) ≡ is_grouped
unfolding grouping_name
groupings_are_read true = refl
groupings_are_read false = refl

-- ---- a code, and counts of digits

currencies : taken (codes "currency") ≡ Some any_text
unfolding taken
currencies = refl

digits : taken (codes "minimumFractionDigits") ≡ Some a_number
unfolding taken
digits = refl
