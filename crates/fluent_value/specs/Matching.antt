-- Which values match: how a variant's key is held against a selector.
use Rattle.std.specs.Prelude.{◌≡◌, ℕ, Bool, true, false, not, ◌&&◌, ◌==◌, List, Option, Some, None, codes}
use Rattle.std.specs.Str.{bytes_eq}
use Rattle.std.specs.Ordering.{int_eq}
use Rattle.fluent_number.specs.Number.{Number}
use Rattle.fluent_number.specs.Options.{Options}
use Rattle.fluent_number.specs.Operands.{operands_of}
use Rattle.fluent_number.specs.declared.options.FluentNumberType.{FluentNumberType}
use Rattle.fluent_number.specs.declared.options.FluentNumberType.TheVariants as type
use Rattle.fluent_number.specs.declared.options.FluentNumberStyle.{FluentNumberStyle}
use Rattle.fluent_number.specs.declared.options.FluentNumberStyle.TheVariants as style
use Rattle.fluent_number.specs.declared.options.FluentNumberCurrencyDisplayStyle.{FluentNumberCurrencyDisplayStyle}
use Rattle.fluent_number.specs.declared.options.FluentNumberCurrencyDisplayStyle.TheVariants as display
use Rattle.fluent_number.specs.declared.plural.PluralOperands.{PluralOperands}
use Rattle.fluent_number.specs.declared.plural.PluralRuleType.{PluralRuleType}
use Rattle.fluent_number.specs.declared.plural.PluralRuleType.TheVariants as rule
use Rattle.fluent_number.specs.declared.plural.PluralCategory.{PluralCategory}
use Rattle.fluent_number.specs.declared.plural.PluralCategory.TheVariants as category
use Rattle.fluent_value.specs.Value.{Value, text, number, custom, none, error}

-- a plural source: the category of a number by the rules for counts or for places, from its operands
abbrev pub Plurals : Type 0
Plurals = PluralRuleType → PluralOperands → PluralCategory

-- the key that names a category
abbrev pub category_text : PluralCategory → List ℕ
category_text category.ZERO = codes "zero"
category_text category.ONE = codes "one"
category_text category.TWO = codes "two"
category_text category.FEW = codes "few"
category_text category.MANY = codes "many"
category_text category.OTHER = codes "other"

-- the plural rules that a number's type asks for
abbrev pub rule_of : FluentNumberType → PluralRuleType
rule_of type.Cardinal = rule.CARDINAL
rule_of type.Ordinal = rule.ORDINAL

-- the category of a number
abbrev pub category_of : Plurals → Number → PluralCategory
category_of plurals n = plurals (rule_of n.options.number_type) (operands_of n)

abbrev pub same_type : FluentNumberType → FluentNumberType → Bool
same_type type.Cardinal type.Cardinal = true
same_type type.Cardinal type.Ordinal = false
same_type type.Ordinal type.Cardinal = false
same_type type.Ordinal type.Ordinal = true

abbrev pub same_style : FluentNumberStyle → FluentNumberStyle → Bool
same_style style.Decimal style.Decimal = true
same_style style.Decimal style.Currency = false
same_style style.Decimal style.Percent = false
same_style style.Currency style.Decimal = false
same_style style.Currency style.Currency = true
same_style style.Currency style.Percent = false
same_style style.Percent style.Decimal = false
same_style style.Percent style.Currency = false
same_style style.Percent style.Percent = true

abbrev pub same_display : FluentNumberCurrencyDisplayStyle → FluentNumberCurrencyDisplayStyle → Bool
same_display display.Symbol display.Symbol = true
same_display display.Symbol display.Code = false
same_display display.Symbol display.Name = false
same_display display.Code display.Symbol = false
same_display display.Code display.Code = true
same_display display.Code display.Name = false
same_display display.Name display.Symbol = false
same_display display.Name display.Code = false
same_display display.Name display.Name = true

abbrev pub same_bool : Bool → Bool → Bool
same_bool true b = b
same_bool false b = not b

-- two that may be absent: both absent, or both there and the same
abbrev pub same_option : {A : Type 0} → (A → A → Bool) → Option A → Option A → Bool
same_option same None None = true
same_option same None (Some b) = false
same_option same (Some a) None = false
same_option same (Some a) (Some b) = same a b

abbrev pub same_count : Option ℕ → Option ℕ → Bool
same_count = same_option (λ a b. a == b)

-- options are the same if each of them is
abbrev pub same_options : Options → Options → Bool
same_options a b =
    same_type a.number_type b.number_type && (same_style a.style b.style && (same_option bytes_eq a.currency b.currency
    && (same_display a.currency_display b.currency_display && (same_bool a.use_grouping b.use_grouping
    && (same_count a.minimum_integer_digits b.minimum_integer_digits && (same_count a.minimum_fraction_digits b.minimum_fraction_digits
    && (same_count a.maximum_fraction_digits b.maximum_fraction_digits && (same_count a.minimum_significant_digits b.minimum_significant_digits
    && same_count a.maximum_significant_digits b.maximum_significant_digits))))))))

-- numbers are the same if value and options are
abbrev pub same_number : Number → Number → Bool
same_number a b = int_eq a.value b.value && same_options a.options b.options

-- A key against a value: two texts or two numbers that are the same, or the text of a category against a number that the plural
-- source gives that category.
abbrev pub matches : {S : Type 0} → Plurals → Value S → Value S → Bool
matches plurals (text k) (text s) = bytes_eq k s
matches plurals (text k) (number n) = bytes_eq k (category_text (category_of plurals n))
matches plurals (text k) (custom c) = false
matches plurals (text k) none = false
matches plurals (text k) error = false
matches plurals (number k) (text s) = false
matches plurals (number k) (number n) = same_number k n
matches plurals (number k) (custom c) = false
matches plurals (number k) none = false
matches plurals (number k) error = false
matches plurals (custom k) v = false
matches plurals none v = false
matches plurals error v = false

-- The same as a relation.
abbrev pub Matches : {S : Type 0} → Plurals → Value S → Value S → Type 0
Matches plurals (text k) (text s) = k ≡ s
Matches plurals (text k) (number n) = k ≡ category_text (category_of plurals n)
Matches plurals (text k) (custom c) = ⊥
Matches plurals (text k) none = ⊥
Matches plurals (text k) error = ⊥
Matches plurals (number k) (text s) = ⊥
Matches plurals (number k) (number n) = k ≡ n
Matches plurals (number k) (custom c) = ⊥
Matches plurals (number k) none = ⊥
Matches plurals (number k) error = ⊥
Matches plurals (custom k) v = ⊥
Matches plurals none v = ⊥
Matches plurals error v = ⊥
